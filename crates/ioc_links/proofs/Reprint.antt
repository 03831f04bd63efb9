-- The printed database link, part by part.
use Rattle.std.proofs.Common.{◌≡◌, ◌≢◌, ℕ, ◌≤◌, Bool, true, false, eqb, leb, ◌&&◌, ◌||◌, not, List, [], ◌∷◌, ◌++◌, length, reverse, Option, Some, None, refl, sym, ap, ◌∙◌, inl, inr, append_assoc, arith}
use mathlib.Core.List.{reverse_aux}
use Rattle.std.proofs.lemmas.Bool.{le-leb, leb-true, eqb-false, ne_eqb, not-true, and_parts, or_parts, or_cases, or_from}
use Rattle.std.proofs.lemmas.List.{reverse-reverse, length-append}
use Rattle.ioc_values.specs.Trim.{is_blank, skip_front, trimmed}
use Rattle.ioc_values.specs.Number.{signed}
use Rattle.ioc_links.specs.declared.class.Class.TheVariants.{Point, NameByte, FieldByte, Blank}
use Rattle.ioc_links.specs.declared.link.Link.{Link}
use Rattle.ioc_links.specs.declared.link.Link.TheVariants.{Database}
use Rattle.ioc_links.specs.declared.link.LinkKind.{LinkKind}
use Rattle.ioc_links.specs.declared.link.Mode.{Mode}
use Rattle.ioc_links.specs.declared.link.Mode.TheVariants.{Nms}
use Rattle.ioc_links.specs.declared.link.Target.{Target}
use Rattle.ioc_links.specs.declared.link.Flags.{Flags}
use Rattle.ioc_links.specs.Classes.{in_class, all_of, back_of}
use Rattle.ioc_links.specs.Words.{words}
use Rattle.ioc_links.specs.Grammar.{is_some_of, is_float, is_record_name, is_field_name, target_at, named_at, named, mode_of, flags_of, database_at, database_of, by_first, solid_link, link_of, mode_word, printed_database, printed}
use Rattle.ioc_links.proofs.Spelling.{Outside, outside_append, front_cut, back_cut, word_cut, signed_stops, float_space, space_within}

-- ---- Names and fields

name_byte : (b : ℕ) → in_class NameByte b ≡ true → (33 ≤ b) × (in_class Point b ≡ false) × (in_class Blank b ≡ false)
unfolding in_class
name_byte b h =
    let p = and_parts _ _ h in
    let low : 33 ≤ b = leb-true 33 b (and_parts (leb 33 b) (leb b 126) p.0).0 in
    let n = or_parts (eqb b 34) (eqb b 36 || (eqb b 39 || eqb b 46)) (not-true _ p.1) in
    let m = or_parts (eqb b 36) (eqb b 39 || eqb b 46) n.1 in
    let l = or_parts (eqb b 39) (eqb b 46) m.1 in
    (low, l.1, or_from _ _ (ne_eqb b 32 (λ e. omega arith)) (ne_eqb b 9 (λ e. omega arith)))

field_byte : (b : ℕ) → in_class FieldByte b ≡ true → in_class Blank b ≡ false
unfolding in_class
field_byte b h =
    let low : 48 ≤ b = elim (or_cases _ _ h) [
      | inl is ↦ let k = leb-true 65 b (and_parts (leb 65 b) (leb b 90) is).0 in omega arith
      | inr is ↦ leb-true 48 b (and_parts (leb 48 b) (leb b 57) is).0
    ] in
    or_from _ _ (ne_eqb b 32 (λ e. omega arith)) (ne_eqb b 9 (λ e. omega arith))

name_outside : (bs : List ℕ) → all_of NameByte bs ≡ true → Outside Point bs × Outside Blank bs
name_outside [] h = (tt, tt)
name_outside (b ∷ bs) h =
    let p = and_parts (in_class NameByte b) (all_of NameByte bs) h in
    let k = name_byte b p.0 in
    let o = name_outside bs p.1 in
    ((k.1, o.0), (k.2, o.1))

field_outside : (bs : List ℕ) → all_of FieldByte bs ≡ true → Outside Blank bs
field_outside [] h = tt
field_outside (b ∷ bs) h =
    let p = and_parts (in_class FieldByte b) (all_of FieldByte bs) h in
    (field_byte b p.0, field_outside bs p.1)

some_all : (bs : List ℕ) → is_some_of FieldByte bs ≡ true → all_of FieldByte bs ≡ true
some_all [] h = refl
some_all (b ∷ bs) h = h

-- ---- The words behind the target

abbrev tail_of : Bool → Mode → List ℕ
tail_of true m = 80 ∷ 80 ∷ 32 ∷ mode_word m
tail_of false m = 78 ∷ 80 ∷ 80 ∷ 32 ∷ mode_word m

flags_again : (p : Bool) (m : Mode) → flags_of (words (tail_of p m)) ≡ Some (record { process_passive = p; mode = m })
unfolding flags_of mode_of
flags_again true Nms = refl
flags_again false Nms = refl
flags_again _ _ = refl

printed_is : (name field : List ℕ) (p : Bool) (m : Mode) → printed_database (record { record_name = name; field = field }) (record { process_passive = p; mode = m }) ≡ (name ++ 46 ∷ field) ++ 32 ∷ tail_of p m
printed_is name field true m = append_assoc (name ++ 46 ∷ field) (32 ∷ 80 ∷ 80 ∷ 32 ∷ []) (mode_word m)
printed_is name field false m = append_assoc (name ++ 46 ∷ field) (32 ∷ 78 ∷ 80 ∷ 80 ∷ 32 ∷ []) (mode_word m)

-- ---- Nothing to trim

aux_append : (xs ys zs : List ℕ) → reverse_aux (xs ++ ys) zs ≡ reverse_aux ys (reverse_aux xs zs)
aux_append [] ys zs = refl
aux_append (x ∷ xs) ys zs = aux_append xs ys (x ∷ zs)

end_solid : (p : Bool) (m : Mode) (zs : List ℕ) → skip_front (is_blank true) (reverse_aux (32 ∷ tail_of p m) zs) ≡ reverse_aux (32 ∷ tail_of p m) zs
end_solid true Nms zs = refl
end_solid false Nms zs = refl
end_solid _ _ _ = refl

first_solid : (x : ℕ) (xs : List ℕ) → is_blank true x ≡ false → skip_front (is_blank true) (x ∷ xs) ≡ x ∷ xs
first_solid x xs h = rw h refl

trim_again : (x : ℕ) (xs : List ℕ) (p : Bool) (m : Mode) → is_blank true x ≡ false → trimmed (is_blank true) (x ∷ (xs ++ 32 ∷ tail_of p m)) ≡ x ∷ (xs ++ 32 ∷ tail_of p m)
trim_again x xs p m h =
    let whole = x ∷ (xs ++ 32 ∷ tail_of p m) in
    let back : reverse whole ≡ reverse_aux (32 ∷ tail_of p m) (reverse_aux (x ∷ xs) []) = aux_append (x ∷ xs) (32 ∷ tail_of p m) [] in
    let solid : skip_front (is_blank true) (reverse whole) ≡ reverse whole = ap (skip_front (is_blank true)) back ∙ end_solid p m (reverse_aux (x ∷ xs) []) ∙ sym back in
    ap (λ (l : List ℕ). reverse (skip_front (is_blank true) (reverse l))) (first_solid x (xs ++ 32 ∷ tail_of p m) h) ∙ ap reverse solid ∙ reverse-reverse whole

-- ---- The link

named_again : (name field : List ℕ) → is_record_name name ≡ true → is_field_name field ≡ true → Outside Point name → named (name ++ 46 ∷ field) ≡ Some (record { record_name = name; field = field })
unfolding named target_at in_class
named_again name field n f o =
    ap (λ (l : List ℕ). named_at l (back_of Point (name ++ 46 ∷ field))) (front_cut Point name 46 field o refl) ∙ ap (named_at name) (back_cut Point name 46 field o refl) ∙ rw (n, f) refl

first_other : (kind : LinkKind) (c : ℕ) (cs : List ℕ) → c ≢ 64 → c ≢ 123 → by_first kind (c ∷ cs) ≡ database_of (words (c ∷ cs))
unfolding by_first
first_other kind c cs h k = rw (ne_eqb c 64 h, ne_eqb c 123 k) refl

link_by : (kind : LinkKind) (text : List ℕ) (l : Option Link) → signed text ≡ None → is_float text ≡ false → by_first kind text ≡ l → solid_link kind text ≡ l
unfolding solid_link
link_by kind text l s f b = rw (s, f) b

tail_short : (p : Bool) (m : Mode) → length (tail_of p m) ≤ 7
tail_short true Nms = omega arith
tail_short false Nms = omega arith
tail_short _ _ = omega arith

pub database_again : (kind : LinkKind) (c : ℕ) (cs field : List ℕ) (p : Bool) (m : Mode) → is_record_name (c ∷ cs) ≡ true → is_field_name field ≡ true → c ≢ 64 → c ≢ 123
    → link_of kind (printed_database (record { record_name = c ∷ cs; field = field }) (record { process_passive = p; mode = m })) ≡ Some (Database (record { record_name = c ∷ cs; field = field }) (record { process_passive = p; mode = m }))
unfolding in_class
database_again kind c cs field p m n f no_at no_brace =
    let name = c ∷ cs in
    let text = c ∷ ((cs ++ 46 ∷ field) ++ 32 ∷ tail_of p m) in
    let np = and_parts (leb (length name) 60) (all_of NameByte name) n in
    let fp = and_parts (leb (length field) 8) (is_some_of FieldByte field) f in
    let no = name_outside name np.1 in
    let fo = field_outside field (some_all field fp.1) in
    let blank : is_blank true c ≡ false = no.1.0 in
    let solid : Outside Blank (c ∷ (cs ++ 46 ∷ field)) = outside_append Blank name (46 ∷ field) no.1 (refl, fo) in
    let low = leb-true (length name) 60 np.0 in
    let few = leb-true (length field) 8 fp.0 in
    let short : length text ≤ 120 = omega (arith, length-append (cs ++ 46 ∷ field) (32 ∷ tail_of p m), length-append cs (46 ∷ field), tail_short p m, low, few) in
    let number : signed text ≡ None = ap (λ (l : List ℕ). signed (c ∷ l)) (append_assoc cs (46 ∷ field) (32 ∷ tail_of p m)) ∙ signed_stops c cs (field ++ 32 ∷ tail_of p m) in
    let decimal : is_float text ≡ false = float_space text (space_within (c ∷ (cs ++ 46 ∷ field)) (tail_of p m)) in
    let first = first_other kind c ((cs ++ 46 ∷ field) ++ 32 ∷ tail_of p m) no_at no_brace ∙ ap database_of (word_cut c (cs ++ 46 ∷ field) (tail_of p m) solid)
    ∙ ap (λ (o : Option Target). database_at o (flags_of (words (tail_of p m)))) (named_again name field n f no.0) ∙ ap (database_at (Some (record { record_name = name; field = field }))) (flags_again p m) in
    ap (link_of kind) (printed_is name field p m) ∙ rw (le-leb (length text) 120 short) (ap (solid_link kind) (trim_again c (cs ++ 46 ∷ field) p m blank) ∙ link_by kind text _ number decimal first)

-- Holds if the text doesn't begin with `@` or `{`.
abbrev pub begins_plain : List ℕ → Bool
begins_plain [] = false
begins_plain (b ∷ bs) = not (eqb b 64) && not (eqb b 123)

by_name : (kind : LinkKind) (name field : List ℕ) (p : Bool) (m : Mode) → is_record_name name ≡ true → is_field_name field ≡ true → begins_plain name ≡ true
    → link_of kind (printed_database (record { record_name = name; field = field }) (record { process_passive = p; mode = m })) ≡ Some (Database (record { record_name = name; field = field }) (record { process_passive = p; mode = m }))
by_name kind [] field p m n f b = absurd cc
by_name kind (c ∷ cs) field p m n f b =
    let k = and_parts (not (eqb c 64)) (not (eqb c 123)) b in
    database_again kind c cs field p m n f (eqb-false c 64 (not-true _ k.0)) (eqb-false c 123 (not-true _ k.1))

-- A database link with a valid name and a valid field reads back from its canonical spelling.
pub database_links_again : (kind : LinkKind) (target : Target) (flags : Flags) → is_record_name target.record_name ≡ true → is_field_name target.field ≡ true → begins_plain target.record_name ≡ true
    → link_of kind (printed (Database target flags)) ≡ Some (Database target flags)
database_links_again kind target flags n f b = by_name kind target.record_name target.field flags.process_passive flags.mode n f b
