use Rattle.std.proofs.Common.{rules, ◌≡◌, ◌∙◌, sym, ap, ℕ, ◌+◌, ◌++◌, length, Option, Some, List, map, arith}
use Rattle.std.proofs.lemmas.List.{append_assoc}
use Rattle.ioc_dblex.specs.Macros.{Defined, front_of, back_of, behind_first}
use Rattle.ioc_site_lines.specs.Defining.{definitions_of, seen}
use Rattle.ioc_site_database.specs.SiteFiles.{words_defined}
use Rattle.ioc_site_database.proofs.Filing.{bytes_left, left_length, words_left, defined_cut, back_shorter}
use Rattle.ioc_site_database.proofs.site_words.add_each.Goals as goal

pub loop-rest-smaller : goal.loop-rest-smaller
loop-rest-smaller c =
    let left : bytes_left c.loop-rest.rest ≡ Some c.in-Some.left.now = ap bytes_left c.in-Some.is in
    let before : left_length (bytes_left c.loop-rest.rest) ≡ length c.in-Some.left.now + 1 = ap left_length left in
    let behind : bytes_left c.behind_first-rest.result ≡ behind_first (back_of 0 c.in-Some.left.now) = c.behind_first-rest.ensures ∙ ap behind_first c.split_at_byte.ensures.back in
    let after : left_length (bytes_left c.behind_first-rest.result) ≡ left_length (behind_first (back_of 0 c.in-Some.left.now)) = ap left_length behind in
    omega (arith, before, after, back_shorter c.in-Some.left.now)

pub loop-rest-preserved : goal.loop-rest-preserved
loop-rest-preserved c =
    let before : List Defined = map seen c.loop-rest.all.items in
    let more : List Defined = words_defined (words_left (bytes_left c.behind_first-rest.result)) in
    let left : bytes_left c.loop-rest.rest ≡ Some c.in-Some.left.now = ap bytes_left c.in-Some.is in
    let behind : bytes_left c.behind_first-rest.result ≡ behind_first (back_of 0 c.in-Some.left.now) = c.behind_first-rest.ensures ∙ ap behind_first c.split_at_byte.ensures.back in
    let added : map seen c.add_definitions.new.all.items ≡ before ++ definitions_of c.split_at_byte.result.0.now = search rules in
    ap (λ (ds : List Defined). ds ++ more) added
    ∙ append_assoc before (definitions_of c.split_at_byte.result.0.now) more
    ∙ ap (λ (w : List ℕ). before ++ (definitions_of w ++ more)) c.split_at_byte.ensures.front
    ∙ ap (λ (o : Option (List ℕ)). before ++ (definitions_of (front_of 0 c.in-Some.left.now) ++ words_defined (words_left o))) behind
    ∙ sym (ap (λ (ds : List Defined). before ++ ds) (defined_cut c.in-Some.left.now))
    ∙ sym (ap (λ (o : Option (List ℕ)). before ++ words_defined (words_left o)) left)
    ∙ c.loop-rest.invariant
