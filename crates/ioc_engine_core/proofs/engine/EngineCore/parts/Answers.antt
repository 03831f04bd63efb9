use Rattle.std.proofs.Common.{◌≡◌, ◌≤◌, ℕ, All, List, Vec, Global, sym, ap, ◌∙◌, subst, ⊎_elim, below_more, arith}
use Rattle.std.proofs.lemmas.List.Elements.{All-push, All-weaker}
use Rattle.std.proofs.lemmas.List.Quantifiers.{Any-push}
use Rattle.std.specs.Prelude.{Any, Contains}
use Rattle.ioc_names.specs.declared.record_no.RecordNo.{RecordNo}
use Rattle.ioc_engine_core.specs.EngineView.{EngineView}
use Rattle.ioc_engine_core.specs.Seen.{IsPartSeen}
use Rattle.ioc_engine_core.proofs.Marks.{in_more}
use Rattle.ioc_engine_core.proofs.SeenMore.{no_more, more_on, seen_since}
use Rattle.ioc_engine_core.proofs.engine.EngineCore.parts.Goals as goal

pub loop-number-preserved-then-is_marked : goal.loop-number-preserved-then-is_marked
loop-number-preserved-then-is_marked g c =
    let i = c.loop-number.invariant in
    let Has = λ (q : ℕ). Any (λ (v : Vec RecordNo Global). Contains v.items q) c.loop-number.parts.items in
    record {
      seen = i.seen;
      marked = i.marked;
      each = below_more Has c.loop-number.number i.each (i.marked c.loop-number.number (sym c.is_marked.ensures ∙ c.if-is_marked.true));
      desk = i.desk;
    }

pub loop-number-preserved : goal.loop-number-preserved
loop-number-preserved g c =
    let i = c.loop-number.invariant in
    let before = c.loop-number.parts.items in
    let part = c.in_ok-part.part in
    let number = c.loop-number.number in
    let k = g.K.RecordKind.rules in
    let base = g.B.JournalName.base in
    let first = c.args.desk.now.account.seen in
    let last = c.loop-number.desk.account.seen in
    let then = c.part_of.new.desk.account.seen in
    let Was = λ (v : Vec RecordNo Global). IsPartSeen g.row.D.Denot k base first last v.items in
    let Seen = λ (v : Vec RecordNo Global). IsPartSeen g.row.D.Denot k base first then v.items in
    let more = c.in_ok-part.ensures.desk in
    let still = All-weaker Was Seen (λ v is. seen_since g.row.D.Denot k base v.items first first last then (no_more c.args.desk.now.account).begins more.begins is) before i.seen in
    let In = λ (q : ℕ) (v : Vec RecordNo Global). Contains v.items q in
    let after = c.push.new.self.items in
    let longer = c.in_ok-push.ensures.items in
    let put_in = λ (q : ℕ) (here : Contains part.items q). subst (λ (vs : List (Vec RecordNo Global)). Any (In q) vs) (sym longer) (Any-push (In q) before part here) in
    let stays = λ (q : ℕ) (there : Any (In q) before). subst (λ (vs : List (Vec RecordNo Global)). Any (In q) vs) (sym longer) (in_more (In q) before part there) in
    record {
      seen = subst (λ (vs : List (Vec RecordNo Global)). All Seen vs) (sym longer) (All-push Seen before part still (seen_since g.row.D.Denot k base part.items first last then then i.desk.begins (no_more c.part_of.new.desk.account).begins c.in_ok-part.ensures.seen));
      marked = λ q m. ⊎_elim (λ old. stays q (i.marked q old)) (λ new. put_in q (subst (λ (ns : List ℕ). Contains ns q) c.as_slice.ensures.value new)) (c.mark_all.ensures q m);
      each = below_more (λ q. Any (In q) after) number (λ q lt. stays q (i.each q lt)) (put_in number (subst (λ (n : ℕ). Contains part.items n) c.new.ensures c.in_ok-part.ensures.here));
      desk = more_on c.args.desk.now.account c.loop-number.desk.account c.part_of.new.desk.account i.desk more;
    }

pub returns-clause-each : goal.returns-clause-each
returns-clause-each g c = λ q lt.
    let count : c.self.inside.sets ≡ c.args.self.now.count = ap (λ (v : EngineView). v.count) c.self.view_is in
    let end : c.len-number-end.result ≡ c.self.inside.sets = c.len-number-end.ensures in
    let done : c.len-number-end.result ≤ c.loop-number.number = c.loop-number-test.false in
    c.loop-number.invariant.each q (omega (arith, lt, count, end, done))
