use Rattle.std.proofs.Common.{◌≡◌, ◌≢◌, ℕ, ◌<◌, List, Some, sym, ap, ap₂, subst, ◌∙◌, length, get_or, get_or-set_other, get_or-set_same, below_more, arith, rules}
use Rattle.std.specs.Prelude.{slice_set}
use Rattle.ioc_journal.specs.declared.cell.View.{View}
use Rattle.ioc_journal.specs.Key.{Key, Has}
use Rattle.ioc_journal.specs.Line.{holder}
use Rattle.ioc_journal.specs.Legal.{notifications_key}
use Rattle.ioc_journal.specs.Covering.{Cover}
use Rattle.ioc_set.specs.SetState.{SetState, now_of}
use Rattle.ioc_journaled_set.specs.GiveUpLaws.{ShareNone}
use Rattle.ioc_journaled_set.specs.Passes.{Slot, view_of, keys_of, IsDealt}
use Rattle.std.proofs.lemmas.List.{get_or_default}
use Rattle.ioc_journaled_set.proofs.KeysOfSets.{others_cover, puts_among}
use Rattle.ioc_journaled_set.proofs.together.dealing.deal_all.Goals as goal

pub loop-i-preserved : goal.loop-i-preserved
loop-i-preserved g c =
    let i = c.loop-i.i in
    let inv = c.loop-i.invariant in
    let sets = c.args.sets.now in
    let set = c.index-sets-i.result in
    let own = c.give_records-own.result in
    let e = c.give_records-own.ensures in
    let owned = (view_of c.loop-i.keeper).owns in
    let within : i < length sets = search rules in
    let inside : i < length c.loop-i.passes = search rules in
    let owns = ap (λ (v : View). v.owns) e.kept.1 in
    let seen = ap (λ (v : View). v.seen) inv.holds in
    let here : (d : SetState g.row.K.Denot g.row.D.Denot) → get_or sets i d ≡ set = λ d. get_or_default sets i d set within ∙ sym c.index-sets-i.is in
    let P : ℕ → Type 0 = λ j. (d : SetState g.row.K.Denot g.row.D.Denot) (s : Slot) → IsDealt c.args.keeper.now.table_id (view_of c.args.keeper.now).seen (get_or sets j d) (get_or (slice_set c.loop-i.passes i (Some own)) j s) in
    record {
      table = e.kept.0 ∙ inv.table;
      holds = e.kept.1 ∙ ap₂ holder seen (sym owns);
      key = subst (Has notifications_key) (sym owns) (puts_among set owned inv.key);
      covers = λ j d le lt. subst (λ (ks : List Key). Cover ks (now_of (get_or sets j d))) (sym owns)
          (others_cover set owned (get_or sets j d) (subst (λ (h : SetState g.row.K.Denot g.row.D.Denot). ShareNone h (get_or sets j d)) (here d) (c.requires.apart i j d (omega arith) lt)) (inv.covers j d (omega arith) lt));
      dealt = λ j d s lt. below_more P i
          (λ j lt d s. let apart : j ≢ i = omega arith in subst (IsDealt c.args.keeper.now.table_id (view_of c.args.keeper.now).seen (get_or sets j d)) (sym (get_or-set_other c.loop-i.passes i j (Some own) s apart)) (inv.dealt j d s lt))
          (λ d s. record { pass = own; there = get_or-set_same c.loop-i.passes i (Some own) s inside; same = e.given.0 ∙ inv.table; holds = e.given.1 ∙ ap₂ holder seen (ap keys_of (sym (here d))) })
          j lt d s;
    }
