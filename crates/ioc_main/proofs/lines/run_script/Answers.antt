use Rattle.std.proofs.Common.{refl, sym, subst, arith, ℕ, List, Option, ◌<◌, ◌≡◌, true, false, length}
use Rattle.std.proofs.lemmas.Result.{err_from_is_err_and}
use Rattle.ioc_commands.specs.Commands.{lines_of}
use Rattle.ioc_main.specs.Coming.{still, ReadsSo}
use Rattle.ioc_main.proofs.WrittenLemmas.{script_stops}
use Rattle.ioc_main.proofs.Reading.{prompted, starts_unsaid, reads_stop, reads_on, reads_fail, reads_end, reads_end_fails, none_read}
use Rattle.ioc_main.proofs.lines.run_script.Goals as goal

pub loop-init : goal.loop-init
loop-init g c =
    (refl, c.new-said.ensures.replies, c.new-said.ensures.more, λ told. told, λ _. starts_unsaid (g.S.Session.transcript c.args.session.now) (g.R.Read.remaining c.args.script) (g.W.Write.contents c.args.out.now) c.new-said.result.replies c.new-line.result c.new-said.ensures.replies c.new-line.ensures)

pub returns-in_err-show_prompt-clause-err : goal.returns-in_err-show_prompt-clause-err
returns-in_err-show_prompt-clause-err g c = λ told. absurd (let never : false ≡ true = c.in_err-show_prompt.ensures.ok (c.loop.invariant.3 told) in cc)

pub returns-in-Ok-eq0-clause-ok : goal.returns-in-Ok-eq0-clause-ok
returns-in-Ok-eq0-clause-ok g c =
    let q = c.in-Ok-eq0.ensures.bytes in
    let full : 0 < length c.read.new.buf = omega (arith, c.loop.invariant.0) in
    λ told.
    let known = c.loop.invariant.3 told in
    let so = prompted (g.S.Session.transcript c.args.session.now) (g.R.Read.remaining c.args.script) (g.R.Read.remaining c.loop.script) (g.W.Write.contents c.args.out.now) (g.W.Write.contents c.loop.out) (g.W.Write.contents c.show_prompt.new.out) c.loop.said.replies c.loop.line (g.S.Session.transcript c.loop.session) (g.S.Session.transcript c.show_prompt.new.session) (c.show_prompt.ensures.same known) (c.show_prompt.ensures.kept known) (c.loop.invariant.4 told) in
    reads_end (g.S.Session.transcript c.args.session.now) (still c.loop.said.replies (g.S.Session.transcript c.show_prompt.new.session)) (g.R.Read.remaining c.args.script) (g.R.Read.remaining c.loop.script) (g.R.Read.remaining c.read.new.self) (g.W.Write.contents c.args.out.now) (g.W.Write.contents c.show_prompt.new.out) (g.W.Write.contents c.finish.new.out) c.loop.line (none_read (g.R.Read.remaining c.loop.script) (g.R.Read.remaining c.read.new.self) c.in-Ok-eq0.field-0 c.read.new.buf c.in-Ok-eq0.field-0-test q.0) (q.1 c.in-Ok-eq0.field-0-test full) (c.in_ok-finish-in-Ok-eq0.ensures.ok (c.show_prompt.ensures.determined known)) so

pub returns-in_err-finish-in-Ok-eq0-clause-err : goal.returns-in_err-finish-in-Ok-eq0-clause-err
returns-in_err-finish-in-Ok-eq0-clause-err g c =
    let p = err_from_is_err_and c.from_residual-in_err-finish-in-Ok-eq0.result c.from_residual-in_err-finish-in-Ok-eq0.ensures.1 in
    let q = c.in-Ok-eq0.ensures.bytes in
    let full : 0 < length c.read.new.buf = omega (arith, c.loop.invariant.0) in
    rw (p.1, p.2) (λ told.
    let known = c.loop.invariant.3 told in
    let so = prompted (g.S.Session.transcript c.args.session.now) (g.R.Read.remaining c.args.script) (g.R.Read.remaining c.loop.script) (g.W.Write.contents c.args.out.now) (g.W.Write.contents c.loop.out) (g.W.Write.contents c.show_prompt.new.out) c.loop.said.replies c.loop.line (g.S.Session.transcript c.loop.session) (g.S.Session.transcript c.show_prompt.new.session) (c.show_prompt.ensures.same known) (c.show_prompt.ensures.kept known) (c.loop.invariant.4 told) in
    script_stops _ (g.R.Read.remaining c.args.script) (g.W.Write.contents c.args.out.now) (g.W.Write.contents c.finish.new.out) (λ text. g.S.Session.transcript c.args.session.now (lines_of text)) (reads_end_fails _ (g.S.Session.transcript c.args.session.now) (still c.loop.said.replies (g.S.Session.transcript c.show_prompt.new.session)) (g.R.Read.remaining c.args.script) (g.R.Read.remaining c.loop.script) (g.R.Read.remaining c.read.new.self) (g.W.Write.contents c.args.out.now) (g.W.Write.contents c.show_prompt.new.out) (g.W.Write.contents c.finish.new.out) c.loop.line (none_read (g.R.Read.remaining c.loop.script) (g.R.Read.remaining c.read.new.self) c.in-Ok-eq0.field-0 c.read.new.buf c.in-Ok-eq0.field-0-test q.0) (q.1 c.in-Ok-eq0.field-0-test full) (c.in_err-finish-in-Ok-eq0.ensures.err (c.show_prompt.ensures.determined known)) so))

pub returns-in_err-feed-in-Ok-clause-err : goal.returns-in_err-feed-in-Ok-clause-err
returns-in_err-feed-in-Ok-clause-err g c =
    let p = err_from_is_err_and c.from_residual-in_err-feed-in-Ok.result c.from_residual-in_err-feed-in-Ok.ensures.1 in
    let q = c.in-Ok.ensures.bytes in
    rw (p.1, p.2) (λ told.
    let known = c.loop.invariant.3 told in
    let so = prompted (g.S.Session.transcript c.args.session.now) (g.R.Read.remaining c.args.script) (g.R.Read.remaining c.loop.script) (g.W.Write.contents c.args.out.now) (g.W.Write.contents c.loop.out) (g.W.Write.contents c.show_prompt.new.out) c.loop.said.replies c.loop.line (g.S.Session.transcript c.loop.session) (g.S.Session.transcript c.show_prompt.new.session) (c.show_prompt.ensures.same known) (c.show_prompt.ensures.kept known) (c.loop.invariant.4 told) in
    script_stops _ (g.R.Read.remaining c.args.script) (g.W.Write.contents c.args.out.now) (g.W.Write.contents c.feed.new.out) (λ text. g.S.Session.transcript c.args.session.now (lines_of text)) (reads_fail _ (g.S.Session.transcript c.args.session.now) (still c.loop.said.replies (g.S.Session.transcript c.show_prompt.new.session)) (g.R.Read.remaining c.args.script) (g.R.Read.remaining c.loop.script) (g.R.Read.remaining c.read.new.self) (g.W.Write.contents c.args.out.now) (g.W.Write.contents c.show_prompt.new.out) (g.W.Write.contents c.feed.new.out) c.loop.line c.split_at.result.0.now (rw c.split_at.ensures.front q.0) (c.in_err-feed-in-Ok.ensures.err (c.show_prompt.ensures.determined known)) so))

pub loop-preserved : goal.loop-preserved
loop-preserved g c =
    let q = c.in-Ok.ensures.bytes in (
      omega (arith, c.loop.invariant.0),
      c.in_ok-feed-in-Ok.ensures.written,
      c.in_ok-feed-in-Ok.ensures.none,
      λ told. c.feed.ensures.determined (c.show_prompt.ensures.determined (c.loop.invariant.3 told)),
      λ told.
          let known = c.loop.invariant.3 told in
          let so = prompted (g.S.Session.transcript c.args.session.now) (g.R.Read.remaining c.args.script) (g.R.Read.remaining c.loop.script) (g.W.Write.contents c.args.out.now) (g.W.Write.contents c.loop.out) (g.W.Write.contents c.show_prompt.new.out) c.loop.said.replies c.loop.line (g.S.Session.transcript c.loop.session) (g.S.Session.transcript c.show_prompt.new.session) (c.show_prompt.ensures.same known) (c.show_prompt.ensures.kept known) (c.loop.invariant.4 told) in
          reads_on (g.S.Session.transcript c.args.session.now) (still c.loop.said.replies (g.S.Session.transcript c.show_prompt.new.session)) (still c.feed.new.said.replies (g.S.Session.transcript c.feed.new.session)) (g.R.Read.remaining c.args.script) (g.R.Read.remaining c.loop.script) (g.R.Read.remaining c.read.new.self) (g.W.Write.contents c.args.out.now) (g.W.Write.contents c.show_prompt.new.out) (g.W.Write.contents c.feed.new.out) c.loop.line c.feed.new.line c.split_at.result.0.now (rw c.split_at.ensures.front q.0) (c.in_ok-feed-in-Ok.ensures.ok (c.show_prompt.ensures.determined known)) so,
    )

pub returns-in-Err-clause-err : goal.returns-in-Err-clause-err
returns-in-Err-clause-err g c =
    λ told.
    let known = c.loop.invariant.3 told in
    let so = prompted (g.S.Session.transcript c.args.session.now) (g.R.Read.remaining c.args.script) (g.R.Read.remaining c.loop.script) (g.W.Write.contents c.args.out.now) (g.W.Write.contents c.loop.out) (g.W.Write.contents c.show_prompt.new.out) c.loop.said.replies c.loop.line (g.S.Session.transcript c.loop.session) (g.S.Session.transcript c.show_prompt.new.session) (c.show_prompt.ensures.same known) (c.show_prompt.ensures.kept known) (c.loop.invariant.4 told) in
    reads_stop (g.S.Session.transcript c.args.session.now) (still c.loop.said.replies (g.S.Session.transcript c.show_prompt.new.session)) (g.R.Read.remaining c.args.script) (g.R.Read.remaining c.loop.script) (g.W.Write.contents c.args.out.now) (g.W.Write.contents c.show_prompt.new.out) c.loop.line so

pub returns-clause-err : goal.returns-clause-err
returns-clause-err g c =
    λ told. reads_stop (g.S.Session.transcript c.args.session.now) (still c.loop.said.replies (g.S.Session.transcript c.loop.session)) (g.R.Read.remaining c.args.script) (g.R.Read.remaining c.loop.script) (g.W.Write.contents c.args.out.now) (g.W.Write.contents c.loop.out) c.loop.line (c.loop.invariant.4 told)
