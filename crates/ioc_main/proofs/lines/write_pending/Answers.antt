use Rattle.std.proofs.Common.{ℕ, List, ◌++◌, subst}
use Rattle.std.proofs.lemmas.Result.{err_from_is_err_and, on_err_weaker}
use Rattle.ioc_main.specs.Written.{WritesPart}
use Rattle.std.specs.Io.KnownBytes.{Appends}
use Rattle.ioc_main.proofs.WrittenLemmas.{part_more, all_then_part}
use Rattle.ioc_main.proofs.lines.write_pending.Goals as goal

pub returns-in_err-write_text-clause-err : goal.returns-in_err-write_text-clause-err
returns-in_err-write_text-clause-err g c =
    let p = err_from_is_err_and c.from_residual.result c.from_residual.ensures.1 in
    rw p.1 (part_more (g.W.Write.contents c.args.out.now) (g.W.Write.contents c.write_text.new.out) c.args.said.now.replies c.args.said.now.more.items
    (subst (λ (l : List ℕ). WritesPart (g.W.Write.contents c.args.out.now) l (g.W.Write.contents c.write_text.new.out)) c.as_slice.ensures.value c.in_err-write_text.ensures.err))

pub returns-clause-err : goal.returns-clause-err
returns-clause-err g c =
    on_err_weaker c.write_text-2.result (λ e. subst (λ (l : List ℕ). WritesPart (g.W.Write.contents c.args.out.now) (c.args.said.now.replies ++ l) (g.W.Write.contents c.write_text-2.new.out)) c.as_slice-2.ensures.value (all_then_part (g.W.Write.contents c.args.out.now) (g.W.Write.contents c.write_text.new.out) (g.W.Write.contents c.write_text-2.new.out) c.args.said.now.replies c.as_slice-2.result.now (subst (λ (l : List ℕ). Appends (g.W.Write.contents c.args.out.now) (g.W.Write.contents c.write_text.new.out) l) c.as_slice.ensures.value c.in_ok-write_text.ensures.ok) e)) c.write_text-2.ensures.err
