-- What stays unchanged when a record joins or leaves a put with notification.
use Rattle.std.proofs.Common.{ℕ, Option, Some, None as Nothing_}
use Rattle.ioc_dbcommon.specs.Steps.{with_notification}
use Rattle.ioc_record.specs.RecordRules.{RecordRules}
use Rattle.ioc_store.specs.World.{World, Has, changed, taken_on, let_go}
use Rattle.ioc_store.specs.Worlds.{has-put}
use Rattle.ioc_store.specs.Notifying.{holding, passed_on, notified_as, notified}

holding-either : {R : Type 0} (k : RecordRules R) (P : World R → Type 0) (w : World R) (t : ℕ) (number : Option ℕ)
    → P w → ((n : ℕ) → P (taken_on n (changed k w t (with_notification (Some n))))) → P (holding k w t number)
unfolding holding
holding-either k P w t Nothing_ here there = here
holding-either k P w t (Some n) here there = there n

pub passed-either : {R : Type 0} (k : RecordRules R) (P : World R → Type 0) (w : World R) (s t : ℕ)
    → P w → ((n : ℕ) → P (taken_on n (changed k w t (with_notification (Some n))))) → P (passed_on k w s t)
unfolding passed_on
passed-either k P w s t here there = holding-either k P w t _ here there

notified_as-either : {R : Type 0} (k : RecordRules R) (P : World R → Type 0) (w : World R) (s : ℕ) (number : Option ℕ)
    → P w → ((n : ℕ) → P (let_go n (changed k w s (with_notification Nothing_)))) → P (notified_as k w s number)
unfolding notified_as
notified_as-either k P w s Nothing_ here there = here
notified_as-either k P w s (Some n) here there = there n

pub notified-either : {R : Type 0} (k : RecordRules R) (P : World R → Type 0) (w : World R) (s : ℕ)
    → P w → ((n : ℕ) → P (let_go n (changed k w s (with_notification Nothing_)))) → P (notified k w s)
unfolding notified
notified-either k P w s here there = notified_as-either k P w s _ here there

let_go-has : {R : Type 0} (w : World R) (n m : ℕ) → Has w m → Has (let_go n w) m
unfolding let_go
let_go-has w n m has = has

pub notified-has : {R : Type 0} (k : RecordRules R) (w : World R) (s : ℕ) → Has w s → Has (notified k w s) s
unfolding changed
notified-has k w s has = notified-either k (λ v. Has v s) w s has (λ n. let_go-has _ n s (has-put k w s s _ has))
