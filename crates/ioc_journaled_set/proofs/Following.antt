-- What follows once one pass owns the keys of all sets with records of a put with notification, and
-- the key of the puts with notification.
use Rattle.std.proofs.Common.{◌≡◌, ◌≢◌, ℕ, ◌<◌, List, [], ◌++◌, length, get_or, Option, None, true, refl, sym, ap, subst, ◌∙◌, inl, arith}
use Rattle.std.specs.Prelude.{IsSome, is_some, Contains}
use Rattle.std.specs.List.{AllPairs}
use Rattle.std.specs.FinMap.{get, contains_key}
use Rattle.std.proofs.lemmas.List.{get_or_default}
use Rattle.atomic_table.specs.Seated.{TableId}
use Rattle.ioc_notify.specs.Living.{holders_of}
use Rattle.ioc_record.specs.RecordRules.{RecordRules}
use Rattle.ioc_store.specs.World.{World}
use Rattle.ioc_store.specs.Freeing.{has-cancelled}
use Rattle.ioc_journal.specs.declared.entry.Note.{Note}
use Rattle.ioc_journal.specs.declared.cell.View.{View}
use Rattle.ioc_journal.specs.Key.{Key, Has as Has_key}
use Rattle.ioc_journal.specs.KeyLaws.{has_left}
use Rattle.ioc_journal.specs.Line.{Continues, holder, noted}
use Rattle.ioc_journal.specs.Legal.{IsLegal, key_of, map_of, notifications_key}
use Rattle.ioc_journal.specs.Legal.{IsSound as IsSound-world}
use Rattle.ioc_journal.specs.CountLaws.{CountsNothing}
use Rattle.ioc_journaled_set.specs.Sent.{MayCountNothing}
use Rattle.ioc_journal.specs.Covering.{Holds, Cover}
use Rattle.ioc_journal.specs.Laws.{Lasts, LiveLasts, GoesOn}
use Rattle.ioc_journal.proofs.Basics.{is-none}
use Rattle.ioc_journal.specs.Account.{journalled, calls, numbers_given, PutsAreKeyed, MayFollow, Added, puts_key}
use Rattle.ioc_journal.proofs.Numbers.{numbers_same}
use Rattle.ioc_set.specs.SetState.{SetState, now_of}
use Rattle.ioc_set.specs.Sound.{IsSound}
use Rattle.ioc_journaled_set.specs.GiveUpLaws.{cancel_note, cancel_entry, ShareNone, IsHeldSoundly, IsGivenUpByAll, SetsGiveUp}
use Rattle.ioc_journaled_set.specs.Passes.{Slot, view_in, AreTakenOver}
use Rattle.ioc_journaled_set.specs.Sets.{EachGivesUp, EachIsHeldBy, HaveAll}
use Rattle.ioc_journaled_set.proofs.TakingOver.{continues_on}

module _ {R : Type 0} (k : RecordRules R) (base : World R) where
  -- SetState records stay held in a longer list without their keys.
  holds_on : Lasts k → (v : World R) (seen log : List Note) (owned : List Key) → Cover owned v → Holds k (map_of k base seen) v → Continues seen owned log → IsLegal k base log → Holds k (map_of k base log) v
  holds_on lasts v seen log owned covers holds go legal =
      subst (λ (l : List Note). Holds k (map_of k base l) v) (sym go.1)
      (lasts base v seen go.0 holds (λ r s. go.2 (key_of r) (covers r s)) (subst (λ (l : List Note). IsLegal k base l) go.1 legal))

  -- The owner of the key of the puts with notification knows their counts.
  lives_on : LiveLasts k → (seen log : List Note) (owned : List Key) → Has_key notifications_key owned → Continues seen owned log → IsLegal k base log
      → (number : ℕ) → holders_of number (map_of k base log).live ≡ holders_of number (map_of k base seen).live
  lives_on lasts seen log owned key go legal number =
      ap (λ (l : List Note). holders_of number (map_of k base l).live) go.1
      ∙ sym (lasts base seen go.0 (go.2 notifications_key key) (subst (λ (l : List Note). IsLegal k base l) go.1 legal) number)

  module _ {D : Type 0} (lasts : Lasts k) (live_lasts : LiveLasts k) (law : SetsGiveUp D k) (table : TableId) (number moment : ℕ) (sets : List (SetState R D)) (passes : List Slot) (before v : View)
      (owner : before ≡ holder before.seen puts_key) (held : EachIsHeldBy k base table sets passes) (have : HaveAll k base number before.seen sets)
      (sound : (i : ℕ) (d : SetState R D) → i < length sets → IsSound k (get_or sets i d)) (beside : length passes ≡ length sets) (taken : AreTakenOver k base before passes v) where
    has_key : Has_key notifications_key before.owns
    has_key = subst (λ (x : View). Has_key notifications_key x.owns) (sym owner) (inl refl)

    -- The sets have no common record.
    pub share_none : AllPairs ShareNone sets
    share_none i j d lt within q there =
        is-none (get (get_or sets j d).records q)
        (λ also. taken.apart i j None lt (omega (arith, within, beside)) (key_of q)
        ((held i d None (omega (arith, lt, within))).covers q there) ((held j d None within).covers q also))

    -- The pass owns the keys of each set.
    pub all_covered : (i : ℕ) (d : SetState R D) → i < length sets → Cover v.owns (now_of (get_or sets i d))
    all_covered i d lt n there = (taken.taken i None (omega (arith, lt, beside))).owned (key_of n) ((held i d None lt).covers n there)

    pub puts_owned : Has_key notifications_key v.owns
    puts_owned = taken.owned notifications_key has_key

    -- In a list that continues without the keys of the pass, each set is still held, and the counts
    -- are unchanged.
    module _ (log : List Note) (goes : Continues v.seen v.owns log) (legal : IsLegal k base log) where
      still_held : (i : ℕ) (d : SetState R D) → i < length sets → Holds k (map_of k base log) (now_of (get_or sets i d))
      still_held i d lt =
          let one = taken.taken i None (omega (arith, lt, beside)) in
          let h = held i d None lt in
          holds_on lasts (now_of (get_or sets i d)) (view_in (get_or passes i None)).seen log (view_in (get_or passes i None)).owns h.covers h.holds
          (continues_on (view_in (get_or passes i None)).seen v.seen log (view_in (get_or passes i None)).owns v.owns one.goes_on goes one.owned) legal

      still_live : (other : ℕ) → holders_of other (map_of k base log).live ≡ holders_of other (map_of k base before.seen).live
      still_live other = lives_on live_lasts before.seen log before.owns has_key (continues_on before.seen v.seen log before.owns v.owns taken.goes_on goes taken.owned) legal other

      held_soundly : (own : List Key) (h : SetState R D) → Contains sets h → IsHeldSoundly k (map_of k base log) (v.owns ++ own) h
      held_soundly own h c = subst (IsHeldSoundly k (map_of k base log) (v.owns ++ own)) c.2 (record {
        sound = sound c.0 h c.1;
        holds = still_held c.0 h c.1;
        covers = λ n there. has_left (key_of n) v.owns own (all_covered c.0 h c.1 n there);
      })

      by_law : IsSound-world k base → (desk call : ℕ) (own : List Key)
          → GoesOn k base log (cancel_note desk call moment number (v.owns ++ own)) (IsGivenUpByAll k moment number sets (map_of k base log)) × CountsNothing k (map_of k base log) (cancel_note desk call moment number (v.owns ++ own))
      by_law base_sound desk call own =
          law base log sets desk call moment number (v.owns ++ own) base_sound legal (held_soundly own) share_none
          (have.all ∙ sym (still_live number)) (λ none. have.some (sym (still_live number) ∙ none)) (has_left notifications_key v.owns own puts_owned)

      gone_on : IsSound-world k base → (desk call : ℕ) (own : List Key) → GoesOn k base log (cancel_note desk call moment number (v.owns ++ own)) (IsGivenUpByAll k moment number sets (map_of k base log))
      gone_on base_sound desk call own = (by_law base_sound desk call own).0

    -- The cancel counts nothing.
    pub counts_nothing : MayCountNothing k base v.seen v.owns (cancel_entry moment number)
    counts_nothing log desk call own base_sound goes legal = (by_law log goes legal base_sound desk call own).1

    pub may_follow : MayFollow k base v.seen v.owns (cancel_entry moment number)
    may_follow log desk call own base_sound goes legal = (gone_on log goes legal base_sound desk call own).legal

    module _ (log longer : List Note) (added : Added k base v.seen v.owns (cancel_entry moment number) log longer) where
      known : IsGivenUpByAll k moment number sets (map_of k base log) (map_of k base longer)
      known = subst (λ (l : List Note). IsGivenUpByAll k moment number sets (map_of k base log) (map_of k base l)) (sym added.ends) (gone_on log added.goes_on added.legal added.sound added.desk added.call added.own).known

      pub held_then : {most : ℕ} (after : List (SetState R D)) → EachGivesUp k most moment number sets after → (i : ℕ) (d : SetState R D) → i < length sets → Holds k (map_of k base longer) (now_of (get_or after i d))
      held_then {most} after gives i d lt = known.held most (get_or sets i d) (get_or after i d) (i, lt, get_or_default sets i (get_or sets i d) d lt) (gives i d lt)

      pub nobody_then : holders_of number (map_of k base longer).live ≡ 0
      nobody_then = known.nobody

      pub none_ended_then : (map_of k base longer).ended ≡ []
      none_ended_then = known.none_ended

      pub others_then : (other : ℕ) → other ≢ number → holders_of other (map_of k base longer).live ≡ holders_of other (map_of k base before.seen).live
      others_then other apart = known.others other apart ∙ still_live log added.goes_on added.legal other

      pub none_began_then : PutsAreKeyed longer → numbers_given (calls longer) ≡ numbers_given (calls before.seen)
      none_began_then keyed =
          numbers_same before.seen log longer before.owns (noted (journalled added.desk added.call (cancel_entry moment number)) (v.owns ++ added.own))
          (continues_on before.seen v.seen log before.owns v.owns taken.goes_on added.goes_on taken.owned) added.ends has_key keyed refl

    -- The sets have the same records after the cancel.
    module _ {most : ℕ} (after : List (SetState R D)) (gives : EachGivesUp k most moment number sets after) (same : length after ≡ length sets) where
      was_there : (i : ℕ) (d : SetState R D) → i < length sets → (q : ℕ) → IsSome (get (get_or after i d).records q) → IsSome (get (get_or sets i d).records q)
      was_there i d lt q there =
          sym (has-cancelled k number (now_of (get_or sets i d)) q) ∙ (sym (ap (λ rs. contains_key rs q) (gives i d lt).records) ∙ there)

      pub covered_then : (i : ℕ) (d : SetState R D) → i < length after → Cover v.owns (now_of (get_or after i d))
      covered_then i d lt n there = let within : i < length sets = omega (arith, lt, same) in all_covered i d within n (was_there i d within n there)

      pub share_none_then : AllPairs ShareNone after
      share_none_then i j d lt within q there =
          let second : j < length sets = omega (arith, within, same) in
          let first : i < length sets = omega (arith, lt, second) in
          is-none (get (get_or after j d).records q)
          (λ also. none_some (get (get_or sets j d).records q) (share_none i j d lt second q (was_there i d first q there)) (was_there j d second q also))
        where
          none_some : {A : Type 0} (o : Option A) → o ≡ None → is_some o ≡ true → ⊥
          none_some o none some = cc
