-- The laws of the inputs of calc, calcout and sel.
use Rattle.std.proofs.Common.{◌≡◌, ◌≢◌, Bool, true, false, cond, List, [], ◌∷◌, Option, Some, None, refl, sym, ap, ◌∙◌, ◌⊎◌, inl, inr, arith}
use Rattle.std.specs.Prelude.{is_some, nat_eq, nat_lt, map, length, slice_get, slice_set, unwrap_or}
use Rattle.std.specs.Float.Ieee.{Float}
use Rattle.std.proofs.lemmas.Bool.{ne_eqb}
use Rattle.ioc_values.specs.declared.value.Value.{Value}
use Rattle.ioc_values.specs.declared.value.Value.TheVariants as value
use Rattle.ioc_fields.specs.declared.field_no.FieldSlot.{FieldSlot}
use Rattle.ioc_fields.specs.declared.field_no.FieldSlot.TheVariants.{N0, N12, N13, N14, N15}
use Rattle.ioc_fields.specs.declared.field_no.OwnField.{OwnField}
use Rattle.ioc_fields.specs.declared.field_no.OwnField.TheVariants.{Letter, LastLetter, InputLink}
use Rattle.ioc_fields.specs.Names.{all_slots, input_slots}
use Rattle.ioc_fields.specs.Slots.{slot_number}
use Rattle.ioc_fields.specs.Table.{input_slot_row, inputs_row}
use Rattle.ioc_dbcommon.specs.declared.link_field.LinkField.{LinkField}
use Rattle.ioc_dbcommon.specs.Links.{no_link}
use Rattle.ioc_dbcommon.specs.Parts.{double_in}
use Rattle.ioc_record.specs.Values.{field_sort}
use Rattle.ioc_record.specs.ByRow.{can_put_by, is_link_by}
use Rattle.rec_analog.specs.SharedLaws.{IsValueBy}
use Rattle.rec_calc.specs.Inputs.{item_at, placed, inputs_link, inputs_with_link, inputs_get, value_placed, inputs_stored, settled, posted}
use Rattle.rec_calc.specs.declared.inputs.Inputs.{Inputs}

-- ---- Links

abbrev links_with : List LinkField → FieldSlot → LinkField → OwnField → Option LinkField
links_with links s l = inputs_link (placed no_link links s l)

here : (links : List LinkField) (s : FieldSlot) (l : LinkField) → is_some (inputs_link links (InputLink s)) ≡ true → links_with links s l (InputLink s) ≡ Some l
here links N12 l is = cc
here links N13 l is = cc
here links N14 l is = cc
here links N15 l is = cc
here links _ l is = refl

one_of : (b : Bool) (l x : LinkField) → (Some (cond b l x) ≡ Some l) ⊎ (Some (cond b l x) ≡ Some x)
one_of true l x = inl refl
one_of false l x = inr refl

there : (links : List LinkField) (s g : FieldSlot) (l : LinkField) → (links_with links s l (InputLink g) ≡ Some l) ⊎ (links_with links s l (InputLink g) ≡ inputs_link links (InputLink g))
there links s N12 l = inr refl
there links s N13 l = inr refl
there links s N14 l = inr refl
there links s N15 l = inr refl
there links s g l = one_of (nat_eq (slot_number g) (slot_number s)) l (item_at no_link links g)

slot_back : (s : FieldSlot) → slice_get all_slots (slot_number s) ≡ Some s
slot_back N0 = refl
slot_back _ = refl

same_Some : {X : Type 0} (x y : X) → Some x ≡ Some y → x ≡ y
same_Some x y e = cc

-- Different slots have different numbers.
apart_numbers : (s g : FieldSlot) → InputLink g ≢ InputLink s → nat_eq (slot_number g) (slot_number s) ≡ false
apart_numbers s g apart =
    ne_eqb (slot_number g) (slot_number s) (λ e. apart (ap InputLink (same_Some g s (sym (slot_back g) ∙ ap (slice_get all_slots) e ∙ slot_back s))))

others : (links : List LinkField) (s g : FieldSlot) (l : LinkField) → nat_eq (slot_number g) (slot_number s) ≡ false
    → links_with links s l (InputLink g) ≡ inputs_link links (InputLink g)
others links s N12 l apart = refl
others links s N13 l apart = refl
others links s N14 l apart = refl
others links s N15 l apart = refl
others links s g l apart = ap (λ c. Some (cond c l (item_at no_link links g))) apart

pub inputs_set_here : (b : Inputs) (f : OwnField) (l : LinkField) → is_some (inputs_link b.links f) ≡ true → inputs_link (inputs_with_link b f l).links f ≡ Some l
unfolding inputs_with_link
inputs_set_here b (InputLink s) l is = here b.links s l is
inputs_set_here b _ l is = cc

pub inputs_set_there : (b : Inputs) (f g : OwnField) (l : LinkField) → (inputs_link (inputs_with_link b f l).links g ≡ Some l)
    ⊎ (inputs_link (inputs_with_link b f l).links g ≡ inputs_link b.links g)
unfolding inputs_with_link
inputs_set_there b (InputLink s) (InputLink g) l = there b.links s g l
inputs_set_there b (InputLink s) _ l = inr refl
inputs_set_there b _ g l = inr refl

pub inputs_set_others : (b : Inputs) (f g : OwnField) (l : LinkField) → g ≢ f → inputs_link (inputs_with_link b f l).links g ≡ inputs_link b.links g
unfolding inputs_with_link
inputs_set_others b (InputLink s) (InputLink g) l apart = others b.links s g l (apart_numbers s g apart)
inputs_set_others b (InputLink s) _ l apart = refl
inputs_set_others b _ g l apart = refl

placed_twice : (links : List LinkField) (s : FieldSlot) (l m : LinkField) → placed no_link (placed no_link links s l) s m ≡ placed no_link links s m
placed_twice links N0 l m = refl
placed_twice links _ l m = refl

pub inputs_set_twice : (b : Inputs) (f : OwnField) (l m : LinkField) → inputs_with_link (inputs_with_link b f l) f m ≡ inputs_with_link b f m
unfolding inputs_with_link
inputs_set_twice b (InputLink s) l m = ap (λ (links : List LinkField). record b { links = links }) (placed_twice b.links s l m)
inputs_set_twice b _ l m = refl

pub inputs_set_values : (b : Inputs) (f : OwnField) (l : LinkField) (g : OwnField) → inputs_get (inputs_with_link b f l) g ≡ inputs_get b g
unfolding inputs_with_link inputs_get
inputs_set_values b (InputLink s) l (Letter g) = refl
inputs_set_values b (InputLink s) l (LastLetter g) = refl
inputs_set_values b (InputLink s) l _ = refl
inputs_set_values b _ l g = refl

value_placed-links : (b : Inputs) (s : FieldSlot) (o : Option Float) → (value_placed b s o).links ≡ b.links
value_placed-links b s None = refl
value_placed-links b s (Some x) = refl

pub inputs_stored-links : (b : Inputs) (f : OwnField) (v : Value) → (inputs_stored b f v).links ≡ b.links
unfolding inputs_stored
inputs_stored-links b (Letter s) v = value_placed-links b s (double_in v)
inputs_stored-links b _ v = refl

pub settled-links : (b : Inputs) → (settled b).links ≡ b.links
unfolding settled
settled-links b = refl

pub posted-links : (changed : Bool) (b : Inputs) → (posted changed b).links ≡ b.links
unfolding posted
posted-links changed b = refl

-- ---- Values

value_back : (b : Inputs) (s : FieldSlot) (x : Float) → can_put_by (inputs_row (Letter s)) → inputs_get (value_placed b s (Some x)) (Letter s) ≡ Some (value.Double x)
unfolding inputs_row input_slot_row inputs_get
value_back b N12 x can = cc
value_back b N13 x can = cc
value_back b N14 x can = cc
value_back b N15 x can = cc
value_back b _ x can = refl

-- What is put into A to L is shown.
pub letter_reads_back : (b : Inputs) (s : FieldSlot) (v : Value) → can_put_by (inputs_row (Letter s)) → IsValueBy (inputs_row (Letter s)) v
    → inputs_get (inputs_stored b (Letter s) v) (Letter s) ≡ Some v
unfolding inputs_row input_slot_row inputs_get inputs_stored field_sort
letter_reads_back b N12 v can is = cc
letter_reads_back b N13 v can is = cc
letter_reads_back b N14 v can is = cc
letter_reads_back b N15 v can is = cc
letter_reads_back b s v can is = rw is.1 refl

-- LA to LL and INPA to INPL can't be put.
pub last_letter_fixed : (s : FieldSlot) → can_put_by (inputs_row (LastLetter s)) → ⊥
unfolding inputs_row input_slot_row
last_letter_fixed N0 can = cc
last_letter_fixed _ can = cc

pub input_fixed : (s : FieldSlot) → can_put_by (inputs_row (InputLink s)) → ⊥
unfolding inputs_row input_slot_row
input_fixed N0 can = cc
input_fixed _ can = cc

-- A to L and LA to LL are no links.
pub letter_no_link : (s : FieldSlot) → is_link_by (inputs_row (Letter s)) ≡ false
unfolding inputs_row input_slot_row
letter_no_link N0 = refl
letter_no_link _ = refl

pub last_letter_no_link : (s : FieldSlot) → is_link_by (inputs_row (LastLetter s)) ≡ false
unfolding inputs_row input_slot_row
last_letter_no_link N0 = refl
last_letter_no_link _ = refl

pub never_both : (b : Bool) → b ≡ false → b ≡ true → ⊥
never_both b is_false is_true = cc

-- ---- Lists of twelve

-- Writing at the number of a slot sets its item in a list of twelve; there are no more.
pub set_is : {A : Type 0} (none : A) (items : List A) (s : FieldSlot) (x : A) → length items ≡ 12 → nat_lt (slot_number s) 12 ≡ true
    → slice_set items (slot_number s) x ≡ placed none items s x
set_is none (a0 ∷ a1 ∷ a2 ∷ a3 ∷ a4 ∷ a5 ∷ a6 ∷ a7 ∷ a8 ∷ a9 ∷ a10 ∷ a11 ∷ []) N12 x h below = cc
set_is none (a0 ∷ a1 ∷ a2 ∷ a3 ∷ a4 ∷ a5 ∷ a6 ∷ a7 ∷ a8 ∷ a9 ∷ a10 ∷ a11 ∷ []) N13 x h below = cc
set_is none (a0 ∷ a1 ∷ a2 ∷ a3 ∷ a4 ∷ a5 ∷ a6 ∷ a7 ∷ a8 ∷ a9 ∷ a10 ∷ a11 ∷ []) N14 x h below = cc
set_is none (a0 ∷ a1 ∷ a2 ∷ a3 ∷ a4 ∷ a5 ∷ a6 ∷ a7 ∷ a8 ∷ a9 ∷ a10 ∷ a11 ∷ []) N15 x h below = cc
set_is none (a0 ∷ a1 ∷ a2 ∷ a3 ∷ a4 ∷ a5 ∷ a6 ∷ a7 ∷ a8 ∷ a9 ∷ a10 ∷ a11 ∷ []) _ x h below = refl
set_is none [] s x h below = absurd (omega arith)
set_is none (a0 ∷ []) s x h below = absurd (omega arith)
set_is none (a0 ∷ a1 ∷ []) s x h below = absurd (omega arith)
set_is none (a0 ∷ a1 ∷ a2 ∷ []) s x h below = absurd (omega arith)
set_is none (a0 ∷ a1 ∷ a2 ∷ a3 ∷ []) s x h below = absurd (omega arith)
set_is none (a0 ∷ a1 ∷ a2 ∷ a3 ∷ a4 ∷ []) s x h below = absurd (omega arith)
set_is none (a0 ∷ a1 ∷ a2 ∷ a3 ∷ a4 ∷ a5 ∷ []) s x h below = absurd (omega arith)
set_is none (a0 ∷ a1 ∷ a2 ∷ a3 ∷ a4 ∷ a5 ∷ a6 ∷ []) s x h below = absurd (omega arith)
set_is none (a0 ∷ a1 ∷ a2 ∷ a3 ∷ a4 ∷ a5 ∷ a6 ∷ a7 ∷ []) s x h below = absurd (omega arith)
set_is none (a0 ∷ a1 ∷ a2 ∷ a3 ∷ a4 ∷ a5 ∷ a6 ∷ a7 ∷ a8 ∷ []) s x h below = absurd (omega arith)
set_is none (a0 ∷ a1 ∷ a2 ∷ a3 ∷ a4 ∷ a5 ∷ a6 ∷ a7 ∷ a8 ∷ a9 ∷ []) s x h below = absurd (omega arith)
set_is none (a0 ∷ a1 ∷ a2 ∷ a3 ∷ a4 ∷ a5 ∷ a6 ∷ a7 ∷ a8 ∷ a9 ∷ a10 ∷ []) s x h below = absurd (omega arith)
set_is none (a0 ∷ a1 ∷ a2 ∷ a3 ∷ a4 ∷ a5 ∷ a6 ∷ a7 ∷ a8 ∷ a9 ∷ a10 ∷ a11 ∷ a12 ∷ rest) s x h below = absurd (omega arith)

-- A list of twelve consists of the items of its slots.
pub all_items : {A : Type 0} (none : A) (items : List A) → length items ≡ 12 → map (item_at none items) input_slots ≡ items
all_items none (a0 ∷ a1 ∷ a2 ∷ a3 ∷ a4 ∷ a5 ∷ a6 ∷ a7 ∷ a8 ∷ a9 ∷ a10 ∷ a11 ∷ []) h = refl
all_items none [] h = absurd (omega arith)
all_items none (a0 ∷ []) h = absurd (omega arith)
all_items none (a0 ∷ a1 ∷ []) h = absurd (omega arith)
all_items none (a0 ∷ a1 ∷ a2 ∷ []) h = absurd (omega arith)
all_items none (a0 ∷ a1 ∷ a2 ∷ a3 ∷ []) h = absurd (omega arith)
all_items none (a0 ∷ a1 ∷ a2 ∷ a3 ∷ a4 ∷ []) h = absurd (omega arith)
all_items none (a0 ∷ a1 ∷ a2 ∷ a3 ∷ a4 ∷ a5 ∷ []) h = absurd (omega arith)
all_items none (a0 ∷ a1 ∷ a2 ∷ a3 ∷ a4 ∷ a5 ∷ a6 ∷ []) h = absurd (omega arith)
all_items none (a0 ∷ a1 ∷ a2 ∷ a3 ∷ a4 ∷ a5 ∷ a6 ∷ a7 ∷ []) h = absurd (omega arith)
all_items none (a0 ∷ a1 ∷ a2 ∷ a3 ∷ a4 ∷ a5 ∷ a6 ∷ a7 ∷ a8 ∷ []) h = absurd (omega arith)
all_items none (a0 ∷ a1 ∷ a2 ∷ a3 ∷ a4 ∷ a5 ∷ a6 ∷ a7 ∷ a8 ∷ a9 ∷ []) h = absurd (omega arith)
all_items none (a0 ∷ a1 ∷ a2 ∷ a3 ∷ a4 ∷ a5 ∷ a6 ∷ a7 ∷ a8 ∷ a9 ∷ a10 ∷ []) h = absurd (omega arith)
all_items none (a0 ∷ a1 ∷ a2 ∷ a3 ∷ a4 ∷ a5 ∷ a6 ∷ a7 ∷ a8 ∷ a9 ∷ a10 ∷ a11 ∷ a12 ∷ rest) h = absurd (omega arith)

-- A slot above the twelve changes nothing in a list of twelve.
pub none_placed : {A : Type 0} (none : A) (items : List A) (s : FieldSlot) (x : A) → length items ≡ 12 → nat_lt (slot_number s) 12 ≡ false
    → placed none items s x ≡ items
none_placed none items N12 x h above = all_items none items h
none_placed none items N13 x h above = all_items none items h
none_placed none items N14 x h above = all_items none items h
none_placed none items N15 x h above = all_items none items h
none_placed none items _ x h above = cc

shown : (links : List LinkField) → map (λ s. unwrap_or (inputs_link links (InputLink s)) no_link) input_slots ≡ map (item_at no_link links) input_slots
shown links = refl

-- Inputs with the same link in each link field have the same links.
pub same_inputs : (xs ys : List LinkField) → length xs ≡ 12 → length ys ≡ 12 → inputs_link xs ≡ inputs_link ys → xs ≡ ys
same_inputs xs ys h g same =
    sym (all_items no_link xs h)
    ∙ sym (shown xs)
    ∙ ap (λ (links : OwnField → Option LinkField). map (λ s. unwrap_or (links (InputLink s)) no_link) input_slots) same
    ∙ shown ys
    ∙ all_items no_link ys g
