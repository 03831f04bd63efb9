-- The events of a machine.
use Rattle.ioc_values.specs.Conversion.{input_of}
use Rattle.ioc_events.specs.declared.event.Event.{Event}
use Rattle.ioc_events.specs.declared.event.Event.TheVariants as event
use Rattle.ioc_sim.specs.declared.tracing.Deed.{Deed}
use Rattle.ioc_sim.specs.declared.tracing.Deed.TheVariants.{Process, Put, Complete, Notify, Cancel}

-- The event that is done. The value of a put is what its text spells.
abbrev pub event_of : Deed → Event
event_of (Process number) = event.Process number
event_of (Put number field text) = event.Put number field (input_of text.now)
event_of (Complete number wait finished) = event.Complete number wait finished
event_of (Notify number notification field value) = event.Notify number notification field value
event_of (Cancel notification) = event.Cancel notification
