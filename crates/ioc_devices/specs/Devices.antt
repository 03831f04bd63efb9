-- The answers of a device that counts its reads, and of one outside.
use Rattle.std.specs.Prelude.{◌≡◌, ◌+◌, ℕ, List}
use Rattle.ioc_device.specs.declared.Answer.{Answer}
use Rattle.ioc_device.specs.declared.Answer.TheVariants.{Done, Fault, Later}
use Rattle.ioc_device.specs.declared.Ask.{Ask}
use Rattle.ioc_device.specs.declared.Ask.TheVariants.{Read, Write}
use Rattle.ioc_values.specs.declared.value.Value.TheVariants.{Long}
use Rattle.ioc_shared_queues.specs.declared.order.SeenChange.{SeenChange}
use Rattle.ioc_shared_queues.specs.Seen.{Puts}
use Rattle.ioc_devices.specs.declared.asks.Asked.{Asked}
use Rattle.ioc_devices.specs.declared.device.CountingDevice.{CountingDevice}

-- A read gives the number of reads with it, and a write is done.
abbrev pub counting_gives : CountingDevice → Ask → ℕ → Answer → CountingDevice → Type 0
counting_gives old Read moment answer new = answer ≡ Done (Long new.reads)
counting_gives old (Write value) moment answer new = (answer ≡ Done value) × (new ≡ old)

-- A device outside, by the number of its last wait: it answers later, which is its next wait, or at once that it can't be asked.
abbrev pub outside_gives : ℕ → Answer → ℕ → Type 0
outside_gives wait Later wait_then = wait_then ≡ wait + 1
outside_gives wait Fault wait_then = wait_then ≡ wait
outside_gives wait (Done value) wait_then = ⊥

-- A device outside with this number, by that of its last wait and what a lane has seen of the asks: it answers later exactly if what it is
-- asked was put behind them, with the number of its next wait. It answers a fault if no more asks can wait, and nothing is put then.
abbrev pub asks_by : ℕ → ℕ → List (SeenChange Asked) → Ask → Answer → ℕ → List (SeenChange Asked) → Type 0
asks_by device wait seen ask Later wait_then seen_then =
    (wait_then ≡ wait + 1) × Puts seen (record { device = device; wait = wait + 1; ask = ask }) seen_then
asks_by device wait seen ask Fault wait_then seen_then = (wait_then ≡ wait) × (seen_then ≡ seen)
asks_by device wait seen ask (Done value) wait_then seen_then = ⊥
