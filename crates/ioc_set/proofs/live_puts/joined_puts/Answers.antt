use Rattle.std.proofs.Common.{◌∙◌, ◌≤◌, List, [], ◌++◌, length, ap, sym, subst, arith}
use Rattle.ioc_notify.specs.declared.live_numbers.Live.{Live}
use Rattle.ioc_notify.specs.declared.waiting_lists.Waiting.{Waiting}
use Rattle.ioc_notify.specs.Living.{Living}
use Rattle.ioc_notify.specs.Waits.{Waits}
use Rattle.ioc_set.specs.Puts.{Puts}
use Rattle.ioc_set.specs.Recounting.{begun_each, together, AreBegun, AreLive}
use Rattle.ioc_set.proofs.Counted.{none-begun, each-begun}
use Rattle.ioc_set.proofs.Gathered.{nobody-counted, both-live, both-length, first-length}
use Rattle.ioc_set.proofs.live_puts.joined_puts.Goals as goal

pub returns-in_default-clause-counted : goal.returns-in_default-clause-counted
returns-in_default-clause-counted g c =
    let none = c.requires.room c.in_default.is in
    let one = c.args.one.now in
    let other = c.args.other.now in
    nobody-counted g.K.RecordKind.rules c.args.members.now.records (one.waiting ++ other.waiting) (together one.live other.live) c.requires.live
    (ap (λ (l : List Live). together l other.live) none.0.0 ∙ ap (λ (l : List Live). together [] l) none.1.0) (ap (λ (l : List Waiting). l ++ other.waiting) none.0.1 ∙ none.1.1) c.requires.few
    c.none.result.live c.none.result.waiting (ap (λ (p : Puts). p.live) c.none.ensures) (ap (λ (p : Puts). p.waiting) c.none.ensures)

pub begin_in-requires-clause-fits : goal.begin_in-requires-clause-fits
begin_in-requires-clause-fits g c =
    let empty = ap (λ (l : Living). l.live) (c.queue_in-2.ensures.live ∙ c.queue_in.ensures.live) ∙ c.in-Some.place.no_live in
    let few = first-length c.args.one.now.live c.args.other.now.live in
    let fits = c.requires.live_fits in
    subst (λ (l : List Live). length (begun_each c.args.one.now.live l) ≤ 256) (sym empty) (omega (arith, few, fits))

pub begin_in-requires-2-clause-fits : goal.begin_in-requires-2-clause-fits
begin_in-requires-2-clause-fits g c =
    let empty = ap (λ (l : Living). l.live) (c.queue_in-2.ensures.live ∙ c.queue_in.ensures.live) ∙ c.in-Some.place.no_live in
    let first = c.begin_in.ensures.live ∙ ap (λ (l : List Live). begun_each c.args.one.now.live l) empty in
    let few = both-length c.args.one.now.live c.args.other.now.live in
    let fits = c.requires.live_fits in
    subst (λ (l : List Live). length (begun_each c.args.other.now.live l) ≤ 256) (sym first) (omega (arith, few, fits))

pub recount-requires-clause-begun : goal.recount-requires-clause-begun
recount-requires-clause-begun g c =
    let one = c.args.one.now.live in
    let empty = ap (λ (l : Living). l.live) (c.queue_in-2.ensures.live ∙ c.queue_in.ensures.live) ∙ c.in-Some.place.no_live in
    let now = c.begin_in-2.ensures.live ∙ ap (λ (l : List Live). begun_each c.args.other.now.live l) (c.begin_in.ensures.live ∙ ap (λ (l : List Live). begun_each one l) empty) in
    subst (λ (l : List Live). AreBegun l) (sym now) (each-begun c.args.other.now.live (begun_each one []) (each-begun one [] none-begun))

pub recount-requires-clause-live : goal.recount-requires-clause-live
recount-requires-clause-live g c =
    let k = g.K.RecordKind.rules in
    let rs = c.args.members.now.records in
    let one = c.args.one.now in
    let other = c.args.other.now in
    let empty = ap (λ (l : Living). l.live) (c.queue_in-2.ensures.live ∙ c.queue_in.ensures.live) ∙ c.in-Some.place.no_live in
    let now = c.begin_in-2.ensures.live ∙ ap (λ (l : List Live). begun_each other.live l) (c.begin_in.ensures.live ∙ ap (λ (l : List Live). begun_each one.live l) empty) in
    let queued = ap (λ (w : Waits). w.waiting) (c.begin_in-2.ensures.waiting ∙ c.begin_in.ensures.waiting) ∙ c.queue_in-2.ensures.waiting ∙ ap (λ (l : List Waiting). l ++ other.waiting) (c.queue_in.ensures.waiting ∙ ap (λ (l : List Waiting). l ++ one.waiting) c.in-Some.place.none_waits) in
    subst (λ (l : List Live). AreLive k rs c.begin_in-2.new.into.waiting.waiting l) (sym now)
    (subst (λ (w : List Waiting). AreLive k rs w (begun_each other.live (begun_each one.live []))) (sym queued) (both-live k rs (one.waiting ++ other.waiting) one.live other.live c.requires.live))
