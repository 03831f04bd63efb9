-- The items that an event has sent.
use Rattle.std.specs.Prelude.{List}
use Rattle.ioc_store.specs.declared.outbox.Outbox.{Outbox}
use Rattle.ioc_store.specs.declared.outbox.OutboxItem.{OutboxItem}

abbrev pub items_of : Outbox → List OutboxItem
items_of s = s.items.items
