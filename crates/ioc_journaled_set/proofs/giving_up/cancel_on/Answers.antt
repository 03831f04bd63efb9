use Rattle.std.proofs.Common.{List, Ok, Err, Some, None, Option, subst}
use Rattle.std.specs.Prelude.{Result, IfOk, IfNone, OnErr}
use Rattle.std.specs.Option.{IfSome}
use Rattle.ioc_set.specs.SetState.{SetState}
use Rattle.ioc_journaled_set.specs.GivingUp.{HaveNotAll}
use Rattle.ioc_journaled_set.proofs.SameSets.{gave_up_again, same_sets_again, sets_alike}
use Rattle.ioc_journaled_set.proofs.giving_up.cancel_on.Goals as goal

if_some_then : {A E : Type 0} (P Q : Type 0) (r : Result (Option A) E) → (P → Q) → IfOk r (λ o. IfSome o (λ _. P)) → IfOk r (λ o. IfSome o (λ _. Q))
if_some_then P Q (Ok (Some a)) f x = f x
if_some_then P Q (Ok None) f x = x
if_some_then P Q (Err e) f x = x

if_none_then : {A E : Type 0} (P Q : Type 0) (r : Result (Option A) E) → (P → Q) → IfOk r (λ o. IfNone o P) → IfOk r (λ o. IfNone o Q)
if_none_then P Q (Ok (Some a)) f x = x
if_none_then P Q (Ok None) f x = f x
if_none_then P Q (Err e) f x = x

on_err_then : {A E P Q : Type 0} (r : Result A E) → (P → Q) → OnErr r P → OnErr r Q
on_err_then (Ok a) f x = x
on_err_then (Err e) f x = f x

pub returns-clause-gave_up : goal.returns-clause-gave_up
returns-clause-gave_up g c =
    if_some_then _ _ c.cancel_unwatched-given.result
    (λ gave. gave_up_again g.K.RecordKind.rules g.B.JournalName.base c.args.moment c.args.number c.args.desk.now c.args.held.now c.take_all_watched.new.held c.cancel_unwatched-given.new.held c.keep_all_marked.new.held c.take_all_watched.ensures.sets c.keep_all_marked.ensures c.cancel_unwatched-given.auto.held c.args.all.now c.cancel_unwatched-given.new.desk c.cancel_unwatched-given.new.all gave)
    c.cancel_unwatched-given.ensures.gave_up

pub returns-clause-missing : goal.returns-clause-missing
returns-clause-missing g c =
    if_none_then _ _ c.cancel_unwatched-given.result
    (λ none. (
      same_sets_again c.args.held.now c.take_all_watched.new.held c.cancel_unwatched-given.new.held c.keep_all_marked.new.held c.take_all_watched.ensures.sets c.keep_all_marked.ensures c.cancel_unwatched-given.auto.held none.0,
      none.1,
      none.2,
      subst (λ (l : List (SetState g.row.K.Denot g.row.D.Denot)). HaveNotAll c.args.number c.args.all.now.live l) (sets_alike c.args.held.now c.take_all_watched.new.held c.take_all_watched.ensures.sets) none.3,
    ))
    c.cancel_unwatched-given.ensures.missing

pub returns-clause-err : goal.returns-clause-err
returns-clause-err g c = on_err_then c.cancel_unwatched-given.result (λ refused. (same_sets_again c.args.held.now c.take_all_watched.new.held c.cancel_unwatched-given.new.held c.keep_all_marked.new.held c.take_all_watched.ensures.sets c.keep_all_marked.ensures c.cancel_unwatched-given.auto.held refused.0, refused.1, refused.2)) c.cancel_unwatched-given.ensures.err
