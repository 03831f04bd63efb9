use Rattle.std.proofs.Common.{◌∙◌, ◌+◌, nat_eq, List, position, sym, ap, subst, arith}
use Rattle.ioc_notify.specs.declared.live_numbers.Live.{Live}
use Rattle.ioc_notify.specs.Counts.{IsTable}
use Rattle.ioc_notify.proofs.Tables.{held, set_table, more, pushed_table}
use Rattle.ioc_notify.proofs.notification_counts.add_on_one.Goals as goal

pub overflow_add-before : goal.overflow_add-before
overflow_add-before c =
    let found = ap (λ (l : List Live). position (λ x. nat_eq x.number c.args.number) l) (sym c.as_slice.ensures.value) ∙ sym c.place_of.ensures ∙ c.in-Some.is in
    let has = held c.args.number c.args.items.now.items c.in-Some.place found c.index.result.now c.index.ensures c.requires.table in
    let fits = c.requires.fits in
    omega (arith, has, fits)

pub returns-in-Some-clause-table : goal.returns-in-Some-clause-table
returns-in-Some-clause-table c =
    let found = ap (λ (l : List Live). position (λ x. nat_eq x.number c.args.number) l) (sym c.as_slice.ensures.value) ∙ sym c.place_of.ensures ∙ c.in-Some.is in
    let some = c.if-holders-eq0.false in
    set_table c.args.number c.args.items.now.items c.in-Some.place found c.index.result.now c.index.ensures c.requires.table (c.index.result.now.holders + c.args.holders) (omega (arith, some))

pub returns-in-Some-clause-counts : goal.returns-in-Some-clause-counts
returns-in-Some-clause-counts c =
    let found = ap (λ (l : List Live). position (λ x. nat_eq x.number c.args.number) l) (sym c.as_slice.ensures.value) ∙ sym c.place_of.ensures ∙ c.in-Some.is in
    more c.args.number c.args.items.now.items c.in-Some.place found c.index.result.now c.index.ensures c.requires.table c.args.holders

pub returns-in-None-clause-table : goal.returns-in-None-clause-table
returns-in-None-clause-table c =
    let none = ap (λ (l : List Live). position (λ x. nat_eq x.number c.args.number) l) (sym c.as_slice.ensures.value) ∙ sym c.place_of.ensures ∙ c.in-None.is in
    let some = c.if-holders-eq0.false in
    subst (λ (l : List Live). IsTable l) (sym c.push_reserved.ensures.items)
    (pushed_table c.args.number c.args.holders c.args.items.now.items none (omega (arith, some)) c.requires.table)
