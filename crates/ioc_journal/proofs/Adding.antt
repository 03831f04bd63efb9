-- A list with one more call.
use Rattle.std.proofs.Common.{◌≡◌, ℕ, ◌+◌, List, [], ◌∷◌, ◌++◌, refl, sym, ap, ◌∙◌, subst, inl, arith}
use Rattle.ioc_record.specs.RecordRules.{RecordRules}
use Rattle.ioc_store.specs.World.{World}
use Rattle.ioc_events.specs.declared.event.Entry.{Entry}
use Rattle.ioc_journal.specs.declared.entry.Note.{Note}
use Rattle.ioc_journal.specs.Key.{Key, Has}
use Rattle.ioc_journal.specs.Line.{Continues, noted}
use Rattle.ioc_journal.specs.KeyLaws.{has_right}
use Rattle.ioc_journal.specs.Legal.{IsLegal}
use Rattle.ioc_journal.specs.Account.{desk_view, journalled, calls, calls_by, Below, Rising, desk_key, MayBegin, IsAccount, HasCalled}
use Rattle.ioc_journal.proofs.Calls.{calls-append, keyed_append, below_append, below_more, by-append, own_one, rising_snoc, below_on, calls_on}
use Rattle.ioc_journal.proofs.Numbers.{numbers_differ, puts_stay_keyed}

-- The call is of a desk that has seen a beginning of the list.

module _ {R : Type 0} (k : RecordRules R) (base : World R) (log seen : List Note) (d c : ℕ) (done : Entry) (owns own : List Key) (is : own ≡ desk_key d ∷ [])
    (account : IsAccount k base log) (go : Continues seen own log) (below : Below d c (calls seen)) (legal : IsLegal k base (log ++ noted (journalled d c done) (owns ++ own) ∷ []))
    (known : List Note) (owned : List Key) (on : Continues known owned log) (within : (key : Key) → Has key owned → Has key (owns ++ own)) (begins : MayBegin known owned done.call) where
  abbrev made : Note
  made = noted (journalled d c done) (owns ++ own)

  goes : Continues seen (desk_key d ∷ []) log
  goes = (go.0, go.1, λ q a. go.2 q (subst (Has q) (sym is) a))

  was_below : Below d c (calls log)
  was_below = below_on seen log d c goes account.keyed below

  pub account_then : IsAccount k base (log ++ made ∷ [])
  account_then = record {
    legal = legal;
    rising = subst Rising (sym (calls-append log (made ∷ []))) (rising_snoc (calls log) (journalled d c done) account.rising was_below);
    keyed = keyed_append log (made ∷ []) account.keyed (has_right (desk_key d) owns own (subst (Has (desk_key d)) (sym is) (inl refl)), tt);
    numbers = numbers_differ known log owned made on account.puts_keyed account.numbers begins;
    puts_keyed = puts_stay_keyed known log owned made within account.puts_keyed begins;
  }

  pub below_then : Below d (c + 1) (calls (log ++ made ∷ []))
  below_then =
      subst (Below d (c + 1)) (sym (calls-append log (made ∷ []))) (below_append d (c + 1) (calls log) (journalled d c done ∷ []) (below_more d c (c + 1) (calls log) (omega arith) was_below) ((λ _. omega arith), tt))

  pub called : HasCalled k base (desk_view d c seen) done (desk_view d (c + 1) (log ++ made ∷ []))
  called = record {
    keys = owns ++ own;
    between = go.0;
    number = refl;
    next = refl;
    seen = ap (λ l. l ++ made ∷ []) go.1;
    own =
        ap (λ l. calls_by d l) (calls-append log (made ∷ [])) ∙ by-append d (calls log) (journalled d c done ∷ [])
        ∙ ap (λ l. l ++ calls_by d (journalled d c done ∷ [])) (calls_on seen log d goes account.keyed)
        ∙ ap (λ l. calls_by d (calls seen) ++ l) (own_one (journalled d c done));
    legal = account_then;
  }
