-- The link that a text spells reads back from its canonical spelling.
use Rattle.std.proofs.Common.{◌≡◌, ℕ, ◌≤◌, ◌<◌, ◌^◌, Bool, true, false, cond, eqb, leb, ◌&&◌, List, [], ◌∷◌, length, Option, Some, None, ℤ, pos, negsuc, refl, sym, ap, subst, ◌∙◌, ◌⊎◌, inl, inr, arith}
use Rattle.std.specs.Prelude.{FitsSigned, codes}
use Rattle.std.specs.Fmt.{signed_decimal}
use Rattle.std.specs.Int.{w64}
use Rattle.std.specs.Option.{option_map_or}
use Rattle.std.proofs.lemmas.Int.{ints}
use Rattle.std.proofs.lemmas.Fmt.{length-decimal-le}
use Rattle.std.proofs.lemmas.Bool.{cases_Bool, le-leb, leb-true, ltb-true, not-true, and_parts, and_left, true≢false}
use Rattle.ioc_values.specs.Trim.{is_blank, skip_front, trimmed}
use Rattle.ioc_values.specs.Number.{magnitude, signed, fits_i64}
use Rattle.ioc_values.proofs.Printed.{decimal_solid, decimal_signed}
use Rattle.ioc_links.specs.declared.class.Class.TheVariants.{Point, Mark, NameByte, Blank}
use Rattle.ioc_links.specs.declared.link.Link.{Link}
use Rattle.ioc_links.specs.declared.link.Link.TheVariants.{Empty, Constant, Real, Device, Database}
use Rattle.ioc_links.specs.declared.link.LinkKind.{LinkKind}
use Rattle.ioc_links.specs.declared.link.LinkKind.TheVariants.{WithDevice, NoDevice}
use Rattle.ioc_links.specs.declared.link.Target.{Target}
use Rattle.ioc_links.specs.declared.link.Flags.{Flags}
use Rattle.ioc_links.specs.Classes.{in_class, front_of, back_of}
use Rattle.ioc_links.specs.Words.{words}
use Rattle.ioc_links.specs.Grammar.{is_some_of, mantissa_at, is_mantissa, float_at, is_float, is_record_name, is_field_name, target_at, named_at, named, flags_of, database_at, database_of, device_of, by_first, constant_of, real_of, solid_link, link_of, printed, LinksAgain}
use Rattle.ioc_links.proofs.WordLemmas.{words_first}
use Rattle.ioc_links.proofs.Reprint.{begins_plain, database_links_again}
use Rattle.ioc_links.proofs.Ends.{last_of, begins_solid, skipped_solid, skipped_short, trimmed_short, skip_last, trimmed_solid, solid_kept}

abbrev Again : LinkKind → Link → Type 0
Again kind link = link_of kind (printed link) ≡ Some link

same_link : (kind : LinkKind) (l link : Link) → Some l ≡ Some link → Again kind l → Again kind link
same_link kind l link e h = let k : l ≡ link = cc in subst (Again kind) k h

where_true : (b : Bool) (o : Option Link) (link : Link) → cond b o None ≡ Some link → (b ≡ true) × (o ≡ Some link)
where_true true o link h = (refl, h)
where_true false o link h = absurd cc

either_of : (b : Bool) (r o : Option Link) (link : Link) → cond b r o ≡ Some link → ((b ≡ true) × (r ≡ Some link)) ⊎ ((b ≡ false) × (o ≡ Some link))
either_of true r o link h = inl (refl, h)
either_of false r o link h = inr (refl, h)

solid_again : (kind : LinkKind) (text : List ℕ) (link : Link) → length text ≤ 120 → trimmed (is_blank true) text ≡ text → solid_link kind text ≡ Some link → link_of kind text ≡ Some link
solid_again kind text link short e h = rw (le-leb (length text) 120 short) (ap (solid_link kind) e ∙ h)

-- ---- Constants

fits : (z : ℤ) → fits_i64 z ≡ true → FitsSigned w64 z
fits (pos n) h = let k : n < 2 ^ 63 = ltb-true n (2 ^ 63) h in omega (arith, ints)
fits (negsuc n) h = let k : n < 2 ^ 63 = ltb-true n (2 ^ 63) h in omega (arith, ints)

decimal_short : (z : ℤ) → fits_i64 z ≡ true → length (signed_decimal z) ≤ 120
decimal_short (pos n) h = let k : n < 2 ^ 63 = ltb-true n (2 ^ 63) h in search (arith, length-decimal-le 20)
decimal_short (negsuc n) h = let k : n < 2 ^ 63 = ltb-true n (2 ^ 63) h in search (arith, length-decimal-le 20)

number_link : (kind : LinkKind) (text : List ℕ) (z : ℤ) → signed text ≡ Some z → fits_i64 z ≡ true → solid_link kind text ≡ Some (Constant z)
unfolding solid_link
number_link kind text z s f = rw (s, f) refl

constant_again : (kind : LinkKind) (z : ℤ) → fits_i64 z ≡ true → Again kind (Constant z)
constant_again kind z f =
    solid_again kind (signed_decimal z) (Constant z) (decimal_short z f) (decimal_solid true z (fits z f)) (number_link kind (signed_decimal z) z (decimal_signed z (fits z f)) f)

-- ---- Constants with a point or an exponent

real_link : (kind : LinkKind) (t : List ℕ) → signed t ≡ None → is_float t ≡ true → length t ≤ 39 → solid_link kind t ≡ Some (Real t)
unfolding solid_link
real_link kind t s f short = rw (s, f, le-leb (length t) 39 short) refl

no_float : is_float [] ≡ false
unfolding is_float is_mantissa
no_float = refl

real_again : (kind : LinkKind) (text t : List ℕ) (link : Link) → trimmed (is_blank true) text ≡ t → signed t ≡ None → is_float t ≡ true → real_of t ≡ Some link → Again kind link
real_again kind text [] link e s f h = absurd (true≢false (sym f ∙ no_float))
real_again kind text (c ∷ cs) link e s f h =
    let ends = trimmed_solid (is_blank true) text c cs e in
    let k = where_true (leb (length (c ∷ cs)) 39) (Some (Real (c ∷ cs))) link h in
    let short : length (c ∷ cs) ≤ 39 = leb-true (length (c ∷ cs)) 39 k.0 in
    same_link kind (Real (c ∷ cs)) link k.1
    (solid_again kind (c ∷ cs) (Real (c ∷ cs)) (omega (arith, short)) (solid_kept (is_blank true) c cs ends.0 ends.1) (real_link kind (c ∷ cs) s f short))

-- ---- Device links

mantissa_no : (whole back : List ℕ) → mantissa_at (64 ∷ whole) back ≡ false
unfolding in_class
mantissa_no whole [] = refl
mantissa_no whole (p ∷ part) = refl

at_no_mantissa : (bs : List ℕ) → is_mantissa (64 ∷ bs) ≡ false
unfolding is_mantissa in_class
at_no_mantissa bs = mantissa_no (front_of Point bs) (back_of Point bs)

float_no : (number back : List ℕ) → is_mantissa number ≡ false → float_at number back ≡ false
float_no number [] h = h
float_no number (mark ∷ power) h = and_left (is_mantissa number) _ h

at_no_float : (bs : List ℕ) → is_float (64 ∷ bs) ≡ false
unfolding is_float in_class
at_no_float bs = float_no (64 ∷ front_of Mark bs) (back_of Mark bs) (at_no_mantissa (front_of Mark bs))

at_no_number : (e : ℕ) (es : List ℕ) → signed (64 ∷ e ∷ es) ≡ None
unfolding signed magnitude
at_no_number e es = refl

at_device : (e : ℕ) (es : List ℕ) → is_blank false e ≡ false → by_first WithDevice (64 ∷ e ∷ es) ≡ Some (Device (e ∷ es))
unfolding by_first
at_device e es h = rw h refl

first_link : (kind : LinkKind) (text : List ℕ) (link : Link) → signed text ≡ None → is_float text ≡ false → by_first kind text ≡ Some link → solid_link kind text ≡ Some link
unfolding solid_link
first_link kind text link s f b = rw (s, f) b

device_again : (e : ℕ) (es : List ℕ) → length (e ∷ es) ≤ 119 → is_blank false e ≡ false → is_blank true (last_of e es) ≡ false → Again WithDevice (Device (e ∷ es))
device_again e es short f l =
    solid_again WithDevice (64 ∷ e ∷ es) (Device (e ∷ es)) (omega arith) (solid_kept (is_blank true) 64 (e ∷ es) refl l) (first_link WithDevice (64 ∷ e ∷ es) _ (at_no_number e es) (at_no_float (e ∷ es)) (at_device e es f))

from_device : (kind : LinkKind) (c : ℕ) (cs d : List ℕ) (link : Link) → skip_front (is_blank false) cs ≡ d → length cs ≤ 119 → is_blank true (last_of c cs) ≡ false → device_of kind d ≡ Some link → Again kind link
from_device NoDevice c cs d link k short l h = absurd cc
from_device WithDevice c cs [] link k short l h = absurd cc
from_device WithDevice c cs (e ∷ es) link k short l h =
    let last : is_blank true (last_of e es) ≡ false = sym (ap (is_blank true) (skip_last (is_blank false) c cs e es k)) ∙ l in
    let first : begins_solid (is_blank false) (e ∷ es) ≡ true = sym (ap (begins_solid (is_blank false)) k) ∙ skipped_solid (is_blank false) cs in
    let few : length (e ∷ es) ≤ length cs = subst (λ (x : List ℕ). length x ≤ length cs) k (skipped_short (is_blank false) cs) in
    same_link WithDevice (Device (e ∷ es)) link h (device_again e es (omega arith) (not-true _ first) last)

-- ---- Database links

front_plain : (c : ℕ) (w : List ℕ) → eqb c 64 ≡ false → eqb c 123 ≡ false → is_some_of NameByte (front_of Point (c ∷ w)) ≡ true → begins_plain (front_of Point (c ∷ w)) ≡ true
front_plain c w a b h =
    elim (cases_Bool (in_class Point c)) [
      | inl is ↦ let k = rw is at h in absurd (true≢false (sym k))
      | inr other ↦ rw other (rw (a, b) refl)
    ]

from_target : (kind : LinkKind) (name field : List ℕ) (f : Option Flags) (link : Link) → (is_some_of NameByte name ≡ true → begins_plain name ≡ true) → database_at (target_at name field) f ≡ Some link → Again kind link
unfolding target_at
from_target kind name field None link plain h =
    elim (cases_Bool (is_record_name name && is_field_name field)) [
      | inl is ↦ let k = rw is at h in absurd cc
      | inr other ↦ let k = rw other at h in absurd cc
    ]
from_target kind name field (Some flags) link plain h =
    elim (cases_Bool (is_record_name name && is_field_name field)) [
      | inl is ↦
          let p = and_parts (is_record_name name) (is_field_name field) is in
          let n = and_parts (leb (length name) 60) (is_some_of NameByte name) p.0 in
          let target : Target = record { record_name = name; field = field } in
          same_link kind (Database target flags) link (rw is at h) (database_links_again kind target flags p.0 p.1 (plain n.1))
      | inr other ↦ let k = rw other at h in absurd cc
    ]

from_named : (kind : LinkKind) (name back : List ℕ) (f : Option Flags) (link : Link) → (is_some_of NameByte name ≡ true → begins_plain name ≡ true) → database_at (named_at name back) f ≡ Some link → Again kind link
from_named kind name [] f link plain h = from_target kind name (codes "VAL") f link plain h
from_named kind name (point ∷ field) f link plain h = from_target kind name field f link plain h

first_word : (c : ℕ) (cs : List ℕ) → is_blank true c ≡ false → words (c ∷ cs) ≡ (c ∷ front_of Blank cs) ∷ words (back_of Blank (c ∷ cs))
unfolding in_class
first_word c cs h = words_first c cs h ∙ rw h refl

from_words : (kind : LinkKind) (c : ℕ) (cs : List ℕ) (link : Link) → is_blank true c ≡ false → eqb c 64 ≡ false → eqb c 123 ≡ false → database_of (words (c ∷ cs)) ≡ Some link → Again kind link
unfolding named
from_words kind c cs link solid a b h =
    let w = front_of Blank cs in
    let k : database_at (named (c ∷ w)) (flags_of (words (back_of Blank (c ∷ cs)))) ≡ Some link = sym (ap database_of (first_word c cs solid)) ∙ h in
    from_named kind (front_of Point (c ∷ w)) (back_of Point (c ∷ w)) (flags_of (words (back_of Blank (c ∷ cs)))) link (front_plain c w a b) k

from_words_or : (kind : LinkKind) (c : ℕ) (cs : List ℕ) (link : Link) → is_blank true c ≡ false → eqb c 64 ≡ false → cond (eqb c 123) None (database_of (words (c ∷ cs))) ≡ Some link → Again kind link
from_words_or kind c cs link solid a h =
    elim (cases_Bool (eqb c 123)) [
      | inl is ↦ let k = rw is at h in absurd cc
      | inr other ↦ from_words kind c cs link solid a other (rw other at h)
    ]

-- ---- Any link

empty_again : (kind : LinkKind) → Again kind Empty
unfolding solid_link signed is_float is_mantissa by_first
empty_again kind = refl

from_first : (kind : LinkKind) (text t : List ℕ) (link : Link) → trimmed (is_blank true) text ≡ t → length text ≤ 120 → by_first kind t ≡ Some link → Again kind link
unfolding by_first
from_first kind text [] link e short h = same_link kind Empty link h (empty_again kind)
from_first kind text (c ∷ cs) link e short h =
    let ends = trimmed_solid (is_blank true) text c cs e in
    let few : length (c ∷ cs) ≤ length text = subst (λ (x : List ℕ). length x ≤ length text) e (trimmed_short (is_blank true) text) in
    elim (cases_Bool (eqb c 64)) [
      | inl is ↦ from_device kind c cs (skip_front (is_blank false) cs) link refl (omega arith) ends.1 (rw is at h)
      | inr other ↦ from_words_or kind c cs link ends.0 other (rw other at h)
    ]

either_link : (o : Option ℤ) (d : Option Link) (link : Link) → option_map_or constant_of o d ≡ Some link → ((z : ℤ) × (constant_of z ≡ Some link)) ⊎ ((o ≡ None) × (d ≡ Some link))
either_link None d link h = inr (refl, h)
either_link (Some z) d link h = inl (z, h)

from_solid : (kind : LinkKind) (text : List ℕ) (link : Link) → length text ≤ 120 → solid_link kind (trimmed (is_blank true) text) ≡ Some link → Again kind link
unfolding solid_link
from_solid kind text link short h =
    let t = trimmed (is_blank true) text in
    elim (either_link (signed t) _ link h) [
      | inl found ↦ let k = where_true (fits_i64 found.0) (Some (Constant found.0)) link found.1 in same_link kind (Constant found.0) link k.1 (constant_again kind found.0 k.0)
      | inr other ↦ elim (either_of (is_float t) (real_of t) (by_first kind t) link other.1) [
        | inl real ↦ real_again kind text t link refl other.0 real.0 real.1
        | inr k ↦ from_first kind text t link refl short k.1
      ]
    ]

pub links_again : LinksAgain
links_again kind text link h =
    let k = where_true (leb (length text) 120) (solid_link kind (trimmed (is_blank true) text)) link h in
    from_solid kind text link (leb-true (length text) 120 k.0) k.1
