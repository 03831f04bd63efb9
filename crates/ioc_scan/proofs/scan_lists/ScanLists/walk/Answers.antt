use Rattle.std.proofs.Common.{List, subst}
use Rattle.ioc_scan.specs.declared.position.ListEntry.{ListEntry}
use Rattle.ioc_scan.specs.Members.{AreIndexed, HasAll}
use Rattle.ioc_scan.proofs.Walks.{written}
use Rattle.ioc_scan.proofs.Walking.{written_walk}
use Rattle.ioc_scan.proofs.scan_lists.ScanLists.walk.Goals as goal

pub invariant_of-self : goal.invariant_of-self
invariant_of-self c =
    subst (λ (es : List ListEntry). AreIndexed es c.self.inside.last c.self.inside.indexed c.self.inside.members → AreIndexed es c.self.inside.last c.index_list.new.indexed c.index_list.new.members)
    c.as_slice.ensures.value (c.index_list.ensures.kept c.self.inside.last) c.self.invariant

kept : (c : goal.After-copy_list) → AreIndexed c.self.inside.entries.items c.self.inside.last c.index_list.new.indexed c.index_list.new.members
kept c =
    subst (λ (es : List ListEntry). AreIndexed es c.self.inside.last c.self.inside.indexed c.self.inside.members → AreIndexed es c.self.inside.last c.index_list.new.indexed c.index_list.new.members)
    c.as_slice.ensures.value (c.index_list.ensures.kept c.self.inside.last) c.self.invariant

has : (c : goal.After-copy_list) → HasAll c.self.inside.entries.items c.index_list.new.indexed c.args.list.now
has c = subst (λ (es : List ListEntry). HasAll es c.index_list.new.indexed c.args.list.now) c.as_slice.ensures.value c.in_ok-index_list.ensures.all

pub invariant_of-self-2 : goal.invariant_of-self-2
invariant_of-self-2 c = kept c

pub returns-clause-order : goal.returns-clause-order
returns-clause-order c = written c.copy_list.result c.args.self.now c.self.inside.entries.items c.self.inside.last c.index_list.new.indexed c.index_list.new.members c.args.list.now c.clear.new.self.items c.copy_list.new.into.items (kept c) (has c) c.copy_list.ensures.ordered c.self.view_is c.clear.ensures.items c.copy_list.ensures.listed

pub returns-clause-walked : goal.returns-clause-walked
returns-clause-walked c = written_walk c.copy_list.result c.args.self.now c.self.inside.entries.items c.self.inside.last c.index_list.new.indexed c.index_list.new.members c.args.list.now c.clear.new.self.items c.copy_list.new.into.items (kept c) (has c) c.copy_list.ensures.ordered c.self.view_is c.clear.ensures.items c.copy_list.ensures.listed
