-- Requests of records, each with its ticket. This project's own.
use Rattle.std.specs.Prelude.{ℕ, Bool}
use Rattle.ioc_shared_queues.specs.declared.record_requests.RecordRequest.{RecordRequest}

-- The request of this record, with a ticket that is counted or not.
abbrev pub request : {L : Type 0} → ℕ → Bool → RecordRequest L
request number ticket = record { «record» = number; ticket = ticket }
