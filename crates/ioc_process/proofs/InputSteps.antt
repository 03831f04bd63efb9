-- The effect of reading several inputs in terms of the effect of requests.
use Rattle.std.proofs.Common.{◌≡◌, ℕ, zero, suc, ◌+◌, arith, Some, Bool, true, false, cond, eqb, List, [], ◌∷◌, refl, sym, ap, ◌∙◌, ◌⊎◌, inl, inr}
use Rattle.std.specs.Prelude.{◌||◌, slice_get, Result, Ok, Err}
use Rattle.ioc_values.specs.declared.value.Value.{Value}
use Rattle.ioc_values.specs.declared.error.IocError.{IocError}
use Rattle.ioc_fields.specs.declared.field_no.FieldNo.TheVariants.{Own}
use Rattle.ioc_fields.specs.declared.field_no.OwnField.{OwnField}
use Rattle.ioc_fields.specs.declared.field_no.OwnField.TheVariants.{InputLink, Letter, Seln}
use Rattle.ioc_fields.specs.declared.field_no.FieldSlot.{FieldSlot}
use Rattle.ioc_fields.specs.Names.{all_slots}
use Rattle.ioc_fields.specs.Slots.{slot_number}
use Rattle.ioc_dbcommon.specs.declared.body.Got.{Got}
use Rattle.ioc_dbcommon.specs.declared.body.Got.TheVariants as got
use Rattle.ioc_dbcommon.specs.declared.body.InputKind.{InputKind}
use Rattle.ioc_dbcommon.specs.declared.body.InputKind.TheVariants as input-kind
use Rattle.ioc_dbcommon.specs.declared.body.Want.TheVariants.{ReadInputs}
use Rattle.ioc_dbcommon.specs.declared.link_field.LinkUse.{LinkUse}
use Rattle.ioc_dbcommon.specs.declared.link_field.LinkUse.TheVariants.{Unused, OwnDevice, Absent, Standing}
use Rattle.ioc_dbcommon.specs.declared.link_field.StandingLink.{StandingLink}
use Rattle.ioc_dbcommon.specs.Steps.{inherited, with_active}
use Rattle.ioc_ledger.specs.Requests.{Requests, followed_by}
use Rattle.ioc_record.specs.RecordRules.{RecordRules}
use Rattle.ioc_record.specs.Laws.{IsLawful}
use Rattle.ioc_store.specs.declared.frames.ResumePoint.TheVariants.{Choosing, ReadingEach}
use Rattle.ioc_store.specs.Given.{Answers}
use Rattle.ioc_store.specs.Inputs.{is_fault, came_of, kept}
use Rattle.ioc_store.specs.Links.{input_at, requests_first}
use Rattle.ioc_store.specs.Named.{link_named}
use Rattle.ioc_store.specs.StepFrames.{links-stored}
use Rattle.ioc_store.specs.World.{World, Has, at, common_at, changed, Stays, Keeps, IsClosed}
use Rattle.ioc_store.specs.Worlds.{has-put}
use Rattle.ioc_process.specs.Depth.{kept-stays, stays_on}
use Rattle.ioc_process.specs.Frames.{Calls, asked_ran, after_reading, after_turn, remaining, resumed_reading, then_chosen, then_frame, then_read_each, went_on}
use Rattle.ioc_process.specs.Keeping.{keeps_all, keeps_on, keeps-put}
use Rattle.ioc_process.specs.Processing.{Ran, Came, Read, as_input, as_request, body, completed, faulted, caused, inherits, input, input_read, value_came, prepared, processed, ran_after, read_at, read_chosen, read_each, read_inputs, read_link, read_record, request}
use Rattle.ioc_process.specs.declared.reading_each.InputStep.TheVariants.{Kept}
use Rattle.ioc_process.specs.Runs.{HasCome, IsStanding, IsInputStep}
use Rattle.ioc_process.proofs.FrameSteps.{followed_by-assoc, asked-ran, body-input, read_at-keeps, read_at-stays, remaining-all}

-- Slots that are numbered from here on.
abbrev Numbered : List FieldSlot → ℕ → Type 0
Numbered [] first = Unit {0}
Numbered (slot ∷ slots) first = (slot_number slot ≡ first) × Numbered slots (suc first)

numbered_at : (slots : List FieldSlot) (first n : ℕ) (slot : FieldSlot) → Numbered slots first → slice_get slots n ≡ Some slot → slot_number slot ≡ first + n
numbered_at [] first n slot all is = absurd cc
numbered_at (next ∷ slots) first zero slot all is = let e : next ≡ slot = cc in omega (arith, ap slot_number e, all.0)
numbered_at (next ∷ slots) first (suc n) slot all is = omega (arith, numbered_at slots (suc first) n slot all.1 is)

-- The slot at a place has the number of the place.
pub slot_place : (n : ℕ) (slot : FieldSlot) → slice_get all_slots n ≡ Some slot → slot_number slot ≡ n
slot_place n slot is = omega (arith, numbered_at all_slots 0 n slot (refl, (refl, (refl, (refl, (refl, (refl, (refl, (refl, (refl, (refl, (refl, (refl, (refl, (refl, (refl, (refl, tt)))))))))))))))) is)

module _ {R : Type 0} (k : RecordRules R) (lawful : IsLawful k) where
  -- Keeping what was read keeps all records and their links.
  pub kept-keeps : (w : World R) (s : ℕ) (f : OwnField) (came : Got) → Has w s → Keeps k w (kept k w s f came)
  unfolding kept
  kept-keeps w s f (got.Value v) there = keeps-put k w s there _ (links-stored k lawful (at k w s) (Own f) v)
  kept-keeps w s f got.Nothing there = keeps_all k w
  kept-keeps w s f got.Fault there = keeps_all k w

  pub input_read-stays : (w : World R) (s : ℕ) (t : StandingLink) (slot : FieldSlot) → Stays k w s (input_read k w s t slot).world
  unfolding input_read
  input_read-stays w s t slot = stays_on k (read_at-stays k lawful (λ _. input-kind.Double) w s t) (kept-stays k lawful _ s (Letter slot) _)

  pub input_read-keeps : (w : World R) (s : ℕ) (t : StandingLink) (slot : FieldSlot) → IsClosed k w → Has w s → Has w t.number → Keeps k w (input_read k w s t slot).world
  unfolding input_read
  input_read-keeps w s t slot closed there stands =
      let first = read_at-keeps k lawful (λ _. input-kind.Double) w s t closed there stands in
      keeps_on k first (kept-keeps _ s (Letter slot) _ (first.has s there))

  -- The records that the inputs of a record name exist.
  pub input_slot_stands : (w : World R) (s : ℕ) (slot : FieldSlot) → IsClosed k w → IsStanding w (input_at k w s slot)
  input_slot_stands w s slot is = λ t e. is.closed s t.number (link_named k lawful (at k w s) (Own (InputLink slot)) t e)

  -- Reading a field removes no record.
  inherits-has : (w : World R) (s : ℕ) (t : StandingLink) → Has w s → Has (inherits k w s t) s
  unfolding inherits changed
  inherits-has w s t there =
      elim (eqb s t.number) as (λ b. Has (cond b w (changed k w s (inherited t.mode (common_at k w t.number).condition.alarms.status (common_at k w t.number).condition.alarms.severity))) s) [
        | true ↦ there
        | false ↦ has-put k w s s _ there
      ]

  value_came-has : (w : World R) (s : ℕ) (t : StandingLink) (value : Result Value IocError) → Has w s → Has (value_came k w s t value).world s
  unfolding value_came faulted changed
  value_came-has w s t (Ok v) there = inherits-has w s t there
  value_came-has w s t (Err e) there = has-put k w s s _ there

  pub read_at-has : (w : World R) (s : ℕ) (t : StandingLink) → Has w s → Has (read_at k (λ _. input-kind.Double) w s t).world s
  unfolding read_at
  read_at-has w s t there = value_came-has w s t _ there

  -- What was read and kept, as the code has it.
  pub came-kept : (mid after : World R) (s : ℕ) (slot : FieldSlot) (came : Got) (w : World R) (t : StandingLink) → HasCome mid came (read_at k (λ _. input-kind.Double) w s t)
      → after ≡ kept k mid s (Letter slot) came → (after ≡ (input_read k w s t slot).world) × (came ≡ (input_read k w s t slot).came)
  unfolding input_read
  came-kept mid after s slot came w t has is =
      (is ∙ ap (λ (v : World R). kept k v s (Letter slot) came) has.world ∙ ap (λ (x : Got). kept k (read_at k (λ _. input-kind.Double) w s t).world s (Letter slot) x) has.came, has.came)

  -- An input without a link, one that leads nowhere, and one whose record isn't requested first.
  pub kept-unused : (w : World R) (s : ℕ) (slot : FieldSlot) → input_at k w s slot ≡ Unused → IsInputStep k w s slot (Kept false) w
  unfolding read_link kept
  kept-unused w s slot is = λ ask. rw is (record { requests = refl; world = refl; fault = refl })

  kept-absent : (w : World R) (s : ℕ) (slot : FieldSlot) → input_at k w s slot ≡ Absent → IsInputStep k w s slot (Kept true) (faulted k w s)
  unfolding read_link kept
  kept-absent w s slot is = λ ask. rw is (record { requests = refl; world = refl; fault = refl })

  kept-device : (w : World R) (s : ℕ) (slot : FieldSlot) → input_at k w s slot ≡ OwnDevice → IsInputStep k w s slot (Kept true) (faulted k w s)
  unfolding read_link kept
  kept-device w s slot is = λ ask. rw is (record { requests = refl; world = refl; fault = refl })

  pub kept-nowhere : (w : World R) (s : ℕ) (slot : FieldSlot) (link : LinkUse) → link ≡ input_at k w s slot → (link ≡ OwnDevice) ⊎ (link ≡ Absent)
      → IsInputStep k w s slot (Kept true) (faulted k w s)
  kept-nowhere w s slot link found (inl is) = kept-device w s slot (sym found ∙ is)
  kept-nowhere w s slot link found (inr is) = kept-absent w s slot (sym found ∙ is)

  pub kept-plain : (w : World R) (s : ℕ) (slot : FieldSlot) (t : StandingLink) → input_at k w s slot ≡ Standing t → requests_first k w t ≡ false
      → IsInputStep k w s slot (Kept (is_fault (input_read k w s t slot).came)) (input_read k w s t slot).world
  unfolding read_link read_record prepared input_read
  kept-plain w s slot t is plain = λ ask. rw (is, plain) (record { requests = refl; world = refl; fault = refl })

  module _ (answers : Answers) where
    -- The rest of a body after some requests and a reading.
    after-both : (s : ℕ) (first : Requests) (rest : Read R)
        → processed (after_reading k answers s (as_input (record { world = rest.world; requests = followed_by first rest.requests; came = rest.came })))
        ≡ ran_after first (processed (after_reading k answers s (as_input rest)))
    unfolding after_reading ran_after
    after-both s first rest =
        let last = completed k answers (request k answers) rest.world s rest.came in
        ap (λ (r : Requests). processed (record { world = last.world; requests = r })) (followed_by-assoc first rest.requests last.requests)

    -- A body that has no input left to read goes on with what came.
    pub each-ends : (w : World R) (s : ℕ) (has_fault : Bool) → then_read_each k answers s has_fault [] w ≡ processed (completed k answers (request k answers) w s (came_of has_fault))
    unfolding then_read_each read_each after_reading
    each-ends w s has_fault = refl

    -- An input that was read without a request leaves the inputs behind it.
    pub each-kept : (w after : World R) (s : ℕ) (has_fault is_fault : Bool) (slot : FieldSlot) (slots : List FieldSlot) → IsInputStep k w s slot (Kept is_fault) after
        → then_read_each k answers s has_fault (slot ∷ slots) w ≡ then_read_each k answers s (has_fault || is_fault) slots after
    unfolding then_read_each read_each
    each-kept w after s has_fault is_fault slot slots step =
        let alone = step (request k answers) in
        rw (alone.requests, alone.world, alone.fault) refl

    -- What is read through a link with PP: the record that it names is requested first.
    link-requests : (kind : R → InputKind) (w : World R) (s : ℕ) (t : StandingLink) → requests_first k w t ≡ true → (common_at k w s).active ≡ false
        → read_link k (request k answers) kind w s (Standing t)
        ≡ (let done = as_request (asked_ran k answers (changed k w s (with_active true)) s t.number) in
        let read = read_at k kind (changed k done.world s (with_active false)) s t in
        record { world = read.world; requests = done.requests; came = read.came })
    unfolding read_link read_record prepared caused
    link-requests kind w s t passive inactive = rw (passive, inactive, asked-ran k lawful answers (changed k w s (with_active true)) s t.number) refl

    -- The inputs behind one that was read follow it.
    each-first : (w : World R) (s : ℕ) (has_fault : Bool) (slot : FieldSlot) (slots : List FieldSlot) (first : Read R) → read_link k (request k answers) (λ _. input-kind.Double) w s (input_at k w s slot) ≡ first
        → then_read_each k answers s has_fault (slot ∷ slots) w
        ≡ ran_after first.requests (then_read_each k answers s (has_fault || is_fault first.came) slots (kept k first.world s (Letter slot) first.came))
    unfolding then_read_each read_each
    each-first w s has_fault slot slots first is = rw is (after-both s first.requests (read_each k (request k answers) (kept k first.world s (Letter slot) first.came) s (has_fault || is_fault first.came) slots))

    -- If the link has PP, the record that it names is requested first.
    pub each-requests : (w : World R) (s inputs : ℕ) (has_fault : Bool) (slot : FieldSlot) (t : StandingLink) → input_at k w s slot ≡ Standing t → requests_first k w t ≡ true
        → (common_at k w s).active ≡ false
        → then_read_each k answers s has_fault (slot ∷ remaining inputs (slot_number slot + 1)) w
        ≡ after_turn k answers (changed k w s (with_active true)) (Calls (record { source = s; place = ReadingEach (record { inputs = inputs; slot = slot; has_fault = has_fault }) t }))
    unfolding after_turn then_frame went_on resumed_reading input_read
    each-requests w s inputs has_fault slot t is passive inactive =
        each-first w s has_fault slot (remaining inputs (slot_number slot + 1)) _ (ap (read_link k (request k answers) (λ _. input-kind.Double) w s) is ∙ link-requests (λ _. input-kind.Double) w s t passive inactive)

    -- A body that reads several inputs is determined by the link that chooses them.
    pub body-inputs : (w : World R) (s : ℕ) (link : LinkUse) → k.begin (at k w s) ≡ ReadInputs link
        → processed (body k answers (request k answers) w s) ≡ processed (after_reading k answers s (as_input (read_inputs k (request k answers) w s link)))
    unfolding input
    body-inputs w s link is = ap (λ d. processed d) (body-input k lawful answers w s (ReadInputs link) is)

    -- A body that reads the number that chooses its inputs.
    pub inputs-unused : (w : World R) (s : ℕ) → processed (after_reading k answers s (as_input (read_inputs k (request k answers) w s Unused))) ≡ then_chosen k answers s (record { world = w; came = got.Nothing })
    unfolding read_inputs read_link then_chosen
    inputs-unused w s = refl

    inputs-absent : (w : World R) (s : ℕ) → processed (after_reading k answers s (as_input (read_inputs k (request k answers) w s Absent))) ≡ then_chosen k answers s (record { world = faulted k w s; came = got.Fault })
    unfolding read_inputs read_link then_chosen
    inputs-absent w s = refl

    inputs-device : (w : World R) (s : ℕ) → processed (after_reading k answers s (as_input (read_inputs k (request k answers) w s OwnDevice))) ≡ then_chosen k answers s (record { world = faulted k w s; came = got.Fault })
    unfolding read_inputs read_link then_chosen
    inputs-device w s = refl

    pub inputs-nowhere : (w : World R) (s : ℕ) (link : LinkUse) → (link ≡ OwnDevice) ⊎ (link ≡ Absent)
        → processed (after_reading k answers s (as_input (read_inputs k (request k answers) w s link))) ≡ then_chosen k answers s (record { world = faulted k w s; came = got.Fault })
    inputs-nowhere w s link (inl is) = rw is (inputs-device w s)
    inputs-nowhere w s link (inr is) = rw is (inputs-absent w s)

    pub inputs-plain : (w : World R) (s : ℕ) (t : StandingLink) → requests_first k w t ≡ false
        → processed (after_reading k answers s (as_input (read_inputs k (request k answers) w s (Standing t)))) ≡ then_chosen k answers s (read_at k k.input_kind w s t)
    unfolding read_inputs read_link read_record prepared then_chosen
    inputs-plain w s t plain = rw plain refl

    inputs-first : (w : World R) (s : ℕ) (link : LinkUse) (first : Read R) → read_link k (request k answers) k.input_kind w s link ≡ first
        → processed (after_reading k answers s (as_input (read_inputs k (request k answers) w s link)))
        ≡ ran_after first.requests (then_chosen k answers s (record { world = first.world; came = first.came }))
    unfolding read_inputs then_chosen
    inputs-first w s link first is = rw is (after-both s first.requests (read_chosen k (request k answers) (record { world = first.world; came = first.came }) s))

    pub inputs-request : (w : World R) (s : ℕ) (t : StandingLink) → requests_first k w t ≡ true → (common_at k w s).active ≡ false
        → processed (after_reading k answers s (as_input (read_inputs k (request k answers) w s (Standing t))))
        ≡ after_turn k answers (changed k w s (with_active true)) (Calls (record { source = s; place = Choosing t }))
    unfolding after_turn then_frame went_on
    inputs-request w s t passive inactive = inputs-first w s (Standing t) _ (link-requests k.input_kind w s t passive inactive)

    -- The chosen inputs are read after what came is kept.
    pub chosen-read : (w ready : World R) (s inputs : ℕ) (came : Got) → ready ≡ kept k w s Seln came → inputs ≡ k.inputs (at k ready s) came
        → then_chosen k answers s (record { world = w; came = came }) ≡ then_read_each k answers s (is_fault came) (remaining inputs 0) ready
    unfolding then_chosen read_chosen then_read_each
    chosen-read w ready s inputs came r is = rw (remaining-all k lawful inputs, is, r) refl

    -- What was read through a link, as the code has it.
    pub came-chosen : (mid : World R) (s : ℕ) (came : Got) (read : Came R) (left : Ran R) → HasCome mid came read → then_chosen k answers s (record { world = mid; came = came }) ≡ left
        → then_chosen k answers s read ≡ left
    came-chosen mid s came read left has is =
        ap (λ (v : World R). then_chosen k answers s (record { world = v; came = read.came })) (sym has.world) ∙ ap (λ (x : Got). then_chosen k answers s (record { world = mid; came = x })) (sym has.came) ∙ is
