use Rattle.std.proofs.Common.{◌≡◌, ◌∙◌, ℕ, ◌+◌, ◌-◌, nat_eq, List, position, sym, ap, subst, arith}
use Rattle.ioc_notify.specs.declared.live_numbers.Live.{Live}
use Rattle.ioc_notify.specs.Counts.{holders_in, has_by, IsTable}
use Rattle.ioc_notify.proofs.Tables.{nobody_less, set_table, removed_table, less, gone}
use Rattle.ioc_notify.proofs.notification_counts.take_off_one.Goals as goal

pub returns-in_default-clause-counts : goal.returns-in_default-clause-counts
returns-in_default-clause-counts c =
    let none = ap (λ (l : List Live). position (λ x. nat_eq x.number c.args.number) l) (sym c.as_slice.ensures.value) ∙ sym c.place_of.ensures ∙ c.in_default.is in
    nobody_less c.args.number c.args.holders c.args.items.now.items none c.requires.there

pub returns-then-before-holders-clause-table : goal.returns-then-before-holders-clause-table
returns-then-before-holders-clause-table c =
    let found = ap (λ (l : List Live). position (λ x. nat_eq x.number c.args.number) l) (sym c.as_slice.ensures.value) ∙ sym c.place_of.ensures ∙ c.in-Some.is in
    let more = c.if-before-holders.true in
    set_table c.args.number c.args.items.now.items c.in-Some.place found c.index.result.now c.index.ensures c.requires.table (c.index.result.now.holders - c.args.holders) (omega (arith, more))

pub returns-then-before-holders-clause-counts : goal.returns-then-before-holders-clause-counts
returns-then-before-holders-clause-counts c =
    let found = ap (λ (l : List Live). position (λ x. nat_eq x.number c.args.number) l) (sym c.as_slice.ensures.value) ∙ sym c.place_of.ensures ∙ c.in-Some.is in
    less c.args.number c.args.items.now.items c.in-Some.place found c.index.result.now c.index.ensures c.requires.table c.args.holders c.if-before-holders.true

pub returns-clause-table : goal.returns-clause-table
returns-clause-table c =
    let found = ap (λ (l : List Live). position (λ x. nat_eq x.number c.args.number) l) (sym c.as_slice.ensures.value) ∙ sym c.place_of.ensures ∙ c.in-Some.is in
    subst (λ (l : List Live). IsTable l) (sym c.remove-live.ensures.items) (removed_table c.args.number c.args.items.now.items c.in-Some.place found c.index.result.now c.index.ensures c.requires.table)

pub returns-clause-counts : goal.returns-clause-counts
returns-clause-counts c =
    let found = ap (λ (l : List Live). position (λ x. nat_eq x.number c.args.number) l) (sym c.as_slice.ensures.value) ∙ sym c.place_of.ensures ∙ c.in-Some.is in
    let all = c.if-before-holders.false in
    subst (λ (l : List Live). (n : ℕ) → holders_in n l + has_by n (record { number = c.args.number; holders = c.args.holders }) ≡ holders_in n c.args.items.now.items) (sym c.remove-live.ensures.items)
    (gone c.args.number c.args.items.now.items c.in-Some.place found c.index.result.now c.index.ensures c.requires.table c.args.holders c.requires.there (omega (arith, all)))
