-- A desk that moves on to the longer of two lists.
use Rattle.std.proofs.Common.{◌≡◌, ℕ, ◌≤◌, List, [], ◌∷◌, length, sym, ap, ap₂, ◌∙◌, subst, arith}
use Rattle.atomic_table.specs.Seated.{TableId}
use Rattle.ioc_record.specs.RecordRules.{RecordRules}
use Rattle.ioc_store.specs.World.{World}
use Rattle.ioc_journal.specs.declared.entry.Note.{Note}
use Rattle.ioc_journal.specs.declared.cell.View.{View}
use Rattle.ioc_journal.specs.Key.{Has}
use Rattle.ioc_journal.specs.Line.{longer, holder, Continues}
use Rattle.ioc_journal.specs.Account.{desk_key, calls, calls_by, Below, IsAccount}
use Rattle.ioc_journal.specs.Desks.{IsDesk}
use Rattle.ioc_journal.proofs.Calls.{no_longer, below_on, calls_on, account_longer}

module _ {R : Type 0} {k : RecordRules R} {base : World R} {table id : TableId} {v : View} {n next : ℕ} (desk : IsDesk k base table id v n next)
    (log : List Note) (account : IsAccount k base log) (goes_on : Continues v.seen v.owns log) where
  go : Continues v.seen (desk_key n ∷ []) log
  go = (goes_on.0, goes_on.1, λ q a. goes_on.2 q (subst (Has q) (sym (ap (λ (x : View). x.owns) desk.holds)) a))

  -- A desk that moves on to a list which continues without its key.
  pub desk-moves : (id_then : TableId) (w : View) → id_then ≡ id → w ≡ holder log v.owns → IsDesk k base table id_then w n next
  desk-moves id_then w same holds =
      let seen = sym (ap (λ (x : View). x.seen) holds) in
      record {
        same = same ∙ desk.same;
        holds = holds ∙ ap₂ holder seen (ap (λ (x : View). x.owns) desk.holds);
        below = subst (λ (l : List Note). Below n next (calls l)) seen (below_on v.seen log n next go account.keyed desk.below);
        count = subst (λ (l : List Note). next ≤ length l) seen (omega (arith, desk.count, no_longer v.seen log (desk_key n ∷ []) go));
        account = subst (IsAccount k base) seen account;
      }

  pub calls-stay : calls_by n (calls log) ≡ calls_by n (calls v.seen)
  calls-stay = calls_on v.seen log n go account.keyed

module _ {R : Type 0} {k : RecordRules R} {base : World R} {table id : TableId} {v : View} {n next : ℕ} (desk : IsDesk k base table id v n next)
    (told : List Note) (account : IsAccount k base told) (goes_on : Continues v.seen v.owns (longer v.seen told)) where
  longest : IsAccount k base (longer v.seen told)
  longest = account_longer k base v.seen told desk.account account

  pub desk-learns : (id_then : TableId) (w : View) → id_then ≡ id → w ≡ holder (longer v.seen told) v.owns → IsDesk k base table id_then w n next
  desk-learns = desk-moves desk (longer v.seen told) longest goes_on

  pub same-calls : (w : View) → w ≡ holder (longer v.seen told) v.owns → calls_by n (calls w.seen) ≡ calls_by n (calls v.seen)
  same-calls w holds = ap (λ (x : View). calls_by n (calls x.seen)) holds ∙ calls-stay desk (longer v.seen told) longest goes_on
