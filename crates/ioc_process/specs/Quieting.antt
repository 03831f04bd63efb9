-- A request keeps a quiet database quiet.
use Rattle.std.proofs.Common.{◌≡◌, ℕ, IsSome, IsTrue, unwrap_or, sym, subst}
use Rattle.std.specs.Prelude.{◌↔◌, Contains}
use Rattle.std.specs.Ordering.{nat_cmp}
use Rattle.std.specs.FinMap.{FinMap, get, contains_key}
use Rattle.ioc_dbcommon.specs.declared.common.Common.{Common}
use Rattle.ioc_record.specs.RecordRules.{RecordRules, targets}
use Rattle.ioc_record.specs.Laws.{IsLawful}
use Rattle.ioc_store.specs.World.{World, Has, at, IsClosed}
use Rattle.ioc_process.specs.Rules.{Left, as_it_was, now_waits, IsQuiet, IsSettled}
use Rattle.ioc_process.specs.Processing.{request}
use Rattle.ioc_process.specs.Keeping.{request-keeps}
use Rattle.ioc_process.specs.RulesAllowed.{request-allowed}
use Rattle.ioc_process.specs.RulesLaws.{requested-leaves}
use Rattle.ioc_store.specs.Given.{Answers}

pub left-quiet : {a b : Common} → Left a b → (IsTrue a.active ↔ IsSome a.pending) → IsTrue b.active ↔ IsSome b.pending
left-quiet (as_it_was active pending) quiet = rw (active, pending) quiet
left-quiet (now_waits idle waits some) quiet = (λ _. some, λ _. waits)

module _ {R : Type 0} (k : RecordRules R) (lawful : IsLawful k) where
  pub request-quiet : (answers : Answers) (w : World R) (s : ℕ) → Has w s → IsClosed k w → IsQuiet k w → IsQuiet k (request k answers w s).world
  request-quiet answers w s there closed quiet = record {
    quiet = λ n has. left-quiet (requested-leaves k lawful answers (request-allowed k lawful answers w s) n)
        (quiet.quiet n ((request-keeps k lawful w closed answers s there).only n has));
  }

-- A database is settled by its records alone.
pub settled_by : {R : Type 0} (k : RecordRules R) (w v : World R) → w.records ≡ v.records → IsSettled k w → IsSettled k v
unfolding at
settled_by {R} k w v e is = record {
  closed = record {
    closed = λ n target h. subst (λ (m : FinMap nat_cmp R). IsTrue (contains_key m target)) e
        (is.closed.closed n target (subst (λ (m : FinMap nat_cmp R). Contains (targets k (unwrap_or (get m n) k.missing)) target) (sym e) h));
  };
  quiet = record {
    quiet = λ n has. subst (λ (m : FinMap nat_cmp R). IsTrue (k.common (unwrap_or (get m n) k.missing)).active ↔ IsSome (k.common (unwrap_or (get m n) k.missing)).pending) e
        (is.quiet.quiet n (subst (λ (m : FinMap nat_cmp R). IsTrue (contains_key m n)) (sym e) has));
  };
}
