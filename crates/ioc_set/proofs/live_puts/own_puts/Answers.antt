use Rattle.std.proofs.Common.{◌≡◌, ◌∙◌, ◌≤◌, List, [], ◌++◌, length, ap, sym, subst, arith}
use Rattle.std.specs.FinMap.{contains_key}
use Rattle.ioc_notify.specs.declared.live_numbers.Live.{Live}
use Rattle.ioc_notify.specs.declared.waiting_lists.Waiting.{Waiting}
use Rattle.ioc_notify.specs.Living.{Living}
use Rattle.ioc_notify.specs.Waits.{Waits}
use Rattle.ioc_events.specs.Holding.{how_many}
use Rattle.ioc_set.specs.Puts.{Puts}
use Rattle.ioc_set.specs.Recounting.{own_waiting, begun_each, AreBegun, AreLive}
use Rattle.ioc_set.proofs.Counted.{none-begun, each-begun}
use Rattle.ioc_set.proofs.Recounts.{filter_few}
use Rattle.ioc_set.proofs.Gathered.{kept-live, kept-waiting, kept-none, nobody-counted, own-live, fewer_pass, begun-length}
use Rattle.ioc_set.proofs.live_puts.own_puts.Goals as goal

pub returns-in_default-clause-counted : goal.returns-in_default-clause-counted
returns-in_default-clause-counted g c =
    let none = c.requires.room c.in_default.is in
    nobody-counted g.K.RecordKind.rules c.args.members.now.records c.args.from.now.waiting c.args.from.now.live c.requires.live none.0 none.1 c.requires.few
    c.none.result.live c.none.result.waiting (ap (λ (p : Puts). p.live) c.none.ensures) (ap (λ (p : Puts). p.waiting) c.none.ensures)

pub returns-in_default-kept-clause-counted : goal.returns-in_default-kept-clause-counted
returns-in_default-kept-clause-counted g c =
    let from = c.from.inside in
    let none = kept-none from.kept from.base_live.items from.base_waiting.items c.args.from.now c.from.view_is c.in_default-kept.is in
    nobody-counted g.K.RecordKind.rules c.args.members.now.records c.args.from.now.waiting c.args.from.now.live c.requires.live none.0 none.1 c.requires.few
    c.none-in_default-kept.result.live c.none-in_default-kept.result.waiting (ap (λ (p : Puts). p.live) c.none-in_default-kept.ensures) (ap (λ (p : Puts). p.waiting) c.none-in_default-kept.ensures)

pub begin_each-requires-clause-fits : goal.begin_each-requires-clause-fits
begin_each-requires-clause-fits g c =
    let empty = ap (λ (l : Living). l.live) c.queue_own.ensures.live ∙ c.in-Some.place.no_live in
    let few = begun-length c.live.result.now [] in
    let count : length c.live.result.now ≡ length c.in-Some-kept.of.live.live = ap (λ (l : List Live). length l) c.live.ensures in
    let fits = c.in-Some-kept.of.few in
    subst (λ (l : List Live). length (begun_each c.live.result.now l) ≤ 256) (sym empty) (omega (arith, few, count, fits))

pub recount-requires-clause-begun : goal.recount-requires-clause-begun
recount-requires-clause-begun g c =
    let empty = ap (λ (l : Living). l.live) c.queue_own.ensures.live ∙ c.in-Some.place.no_live in
    subst (λ (l : List Live). AreBegun l) (sym (c.begin_each.ensures.live ∙ ap (λ (l : List Live). begun_each c.live.result.now l) empty)) (each-begun c.live.result.now [] none-begun)

pub recount-requires-clause-live : goal.recount-requires-clause-live
recount-requires-clause-live g c =
    let k = g.K.RecordKind.rules in
    let rs = c.args.members.now.records in
    let from = c.from.inside in
    let before = c.args.from.now in
    let empty = ap (λ (l : Living). l.live) c.queue_own.ensures.live ∙ c.in-Some.place.no_live in
    let live = c.live.ensures ∙ kept-live from.kept from.base_live.items from.base_waiting.items before c.in-Some-kept.of c.from.view_is c.in-Some-kept.is in
    let waits = c.waiting.ensures ∙ kept-waiting from.kept from.base_live.items from.base_waiting.items before c.in-Some-kept.of c.from.view_is c.in-Some-kept.is in
    let now = c.begin_each.ensures.live ∙ ap (λ (l : List Live). begun_each c.live.result.now l) empty ∙ ap (λ (l : List Live). begun_each l []) live in
    let queued = ap (λ (w : Waits). w.waiting) c.begin_each.ensures.waiting ∙ c.queue_own.ensures.waiting ∙ ap (λ (l : List Waiting). l ++ own_waiting rs c.waiting.result.now) c.in-Some.place.none_waits ∙ ap (λ (l : List Waiting). own_waiting rs l) waits in
    subst (λ (l : List Live). AreLive k rs c.begin_each.new.into.waiting.waiting l) (sym now) (subst (λ (w : List Waiting). AreLive k rs w (begun_each before.live [])) (sym queued) (own-live k rs before.waiting before.live c.requires.live))

pub recount-requires-clause-waits_once : goal.recount-requires-clause-waits_once
recount-requires-clause-waits_once g c n =
    let rs = c.args.members.now.records in
    let from = c.from.inside in
    let before = c.args.from.now in
    let waits = c.waiting.ensures ∙ kept-waiting from.kept from.base_live.items from.base_waiting.items before c.in-Some-kept.of c.from.view_is c.in-Some-kept.is in
    let queued = ap (λ (w : Waits). w.waiting) c.begin_each.ensures.waiting ∙ c.queue_own.ensures.waiting ∙ ap (λ (l : List Waiting). l ++ own_waiting rs c.waiting.result.now) c.in-Some.place.none_waits ∙ ap (λ (l : List Waiting). own_waiting rs l) waits in
    let once = c.requires.waits_once n in
    let few = fewer_pass (λ (x : Waiting). x.number) (λ (x : Waiting). contains_key rs x.target) n before.waiting in
    subst (λ (w : List Waiting). how_many (λ (x : Waiting). x.number) n w ≤ 1) (sym queued) (omega (arith, few, once))

pub begin_history-requires : goal.begin_history-requires
begin_history-requires g c =
    let rs = c.args.members.now.records in
    let from = c.from.inside in
    let before = c.args.from.now in
    let waits = c.waiting.ensures ∙ kept-waiting from.kept from.base_live.items from.base_waiting.items before c.in-Some-kept.of c.from.view_is c.in-Some-kept.is in
    let queued = ap (λ (w : Waits). w.waiting) (c.recount.ensures.waiting ∙ c.begin_each.ensures.waiting) ∙ c.queue_own.ensures.waiting ∙ ap (λ (l : List Waiting). l ++ own_waiting rs c.waiting.result.now) c.in-Some.place.none_waits ∙ ap (λ (l : List Waiting). own_waiting rs l) waits in
    let count : length c.recount.new.kept.waiting.waiting ≡ length (own_waiting rs before.waiting) = ap (λ (l : List Waiting). length l) queued in
    let few = filter_few (λ (x : Waiting). contains_key rs x.target) before.waiting in
    let fits = c.requires.fits in
    record { fits = omega (arith, count, few, fits) }
