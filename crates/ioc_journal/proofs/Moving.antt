-- A link change to other held records, done in steps.
use Rattle.std.proofs.Common.{◌≡◌, ℕ, cond, eqb, List, [], ◌∷◌, ◌++◌, Option, Some, refl, sym, ap, ◌∙◌}
use Rattle.std.specs.Prelude.{Contains}
use Rattle.std.specs.FinMap.{get}
use Rattle.ioc_fields.specs.declared.field_no.FieldNo.{FieldNo}
use Rattle.ioc_dbcommon.specs.declared.link_field.LinkField.{LinkField}
use Rattle.ioc_dbcommon.specs.Links.{use_of, named_by}
use Rattle.ioc_record.specs.RecordRules.{RecordRules}
use Rattle.ioc_record.specs.Laws.{IsLawful}
use Rattle.ioc_store.specs.World.{World, Has, at, put}
use Rattle.ioc_store.specs.Scanning.{device_of, rewired, with_link_changed}
use Rattle.ioc_store.specs.Worlds.{at-put_same}
use Rattle.ioc_journal.specs.Legal.{map_of}
use Rattle.ioc_journal.specs.Covering.{AreHalves, WaitsWithin}
use Rattle.ioc_journal.specs.LinkChange.{link_note}
use Rattle.ioc_journal.specs.Laws.{LinkMoves}
use Rattle.ioc_journal.specs.EventLaws.{EventLaws}
use Rattle.ioc_journal.proofs.Linking.{link-joins}
use Rattle.ioc_events.proofs.Rewired.{rewired-leaves}
use Rattle.ioc_journal.proofs.Rescanning.{set-there, there-before, set-within, set-halves, rewired-set, half-at, rescanned-halves, rescanned-shut}
use Rattle.ioc_journal.proofs.Rewiring.{set-at, landed, get-put, set-twice, put-there, put-waiting, changed-get, changed-waiting}
use Rattle.ioc_journal.proofs.Sharing.{falls, one-in}
use Rattle.ioc_journal.proofs.Uniting.{whole, whole-halves, whole-shared, whole-within}

module _ {R : Type 0} (k : RecordRules R) (v o stay rest joined : World R) (s : ℕ) (field : FieldNo) (between link : LinkField)
    (there : Has v s) (twice : k.with_link (k.with_link (at k v s) field between) field link ≡ k.with_link (at k v s) field link)
    (halves : AreHalves (put v s (k.with_link (at k v s) field between)) stay rest) (stays : Has stay s)
    (others : AreHalves joined (put stay s (k.with_link (at k stay s) field link)) o) where
  abbrev device : List ℕ
  device = device_of k (at k v s)

  -- The record with the link between the two, and with its new link.
  abbrev freed : R
  freed = k.with_link (at k v s) field between

  abbrev led : R
  led = k.with_link (at k v s) field link

  abbrev emptied : World R
  emptied = put v s freed

  abbrev linked : World R
  linked = put stay s (k.with_link (at k stay s) field link)

  abbrev changed : World R
  changed = with_link_changed k v s field link

  -- The part that stays with the record, with the new link and the change of the scan list sent.
  abbrev own : World R
  own = rewired k device linked s

  abbrev pub after : World R
  after = rewired k device joined s

  is-led : k.with_link (at k stay s) field link ≡ led
  is-led = ap (λ (r : R). k.with_link r field link) (sym (half-at k emptied stay rest s halves stays) ∙ at-put_same k v s freed) ∙ twice

  changed-set : (q : ℕ) → get changed.records q ≡ set-at s (landed k device led) (get emptied.records) q
  changed-set q =
      changed-get k v s field link q ∙ sym (set-twice k s (landed k device led) freed (get v.records) q)
      ∙ sym (ap (λ (x : Option R). cond (eqb q s) (Some (landed k device led)) x) (get-put k v s freed q))

  own-set : (q : ℕ) → get own.records q ≡ set-at s (landed k device led) (get stay.records) q
  own-set q =
      rewired-set k device linked s led (put-there k stay s (k.with_link (at k stay s) field link)) (at-put_same k stay s (k.with_link (at k stay s) field link) ∙ is-led) q
      ∙ ap (λ (x : Option R). cond (eqb q s) (Some (landed k device led)) x) (get-put k stay s (k.with_link (at k stay s) field link) q)
      ∙ set-twice k s (landed k device led) (k.with_link (at k stay s) field link) (get stay.records) q

  pub changed-halves : AreHalves changed own rest
  changed-halves =
      set-halves s (landed k device led) emptied stay rest changed own halves stays changed-set own-set
      (changed-waiting k v s field link ∙ sym (put-waiting k v s freed)) ((rewired-leaves k device linked s).waiting ∙ put-waiting k stay s (k.with_link (at k stay s) field link))

  linked-there : Has linked s
  linked-there = put-there k stay s (k.with_link (at k stay s) field link)

  pub after-halves : AreHalves after own o
  after-halves = rescanned-halves k joined linked o device s others linked-there

  pub joined-there : Has joined s
  joined-there = one-in joined linked o others s linked-there

  after-set : (q : ℕ) → get after.records q ≡ set-at s (landed k device (at k joined s)) (get joined.records) q
  after-set q = rewired-set k device joined s (at k joined s) joined-there refl q

  pub after-there : (q : ℕ) → Has joined q → Has after q
  after-there q has = set-there s (landed k device (at k joined s)) joined after after-set q has

  pub after-within : WaitsWithin joined → WaitsWithin after
  after-within within = set-within s (landed k device (at k joined s)) joined after after-set (rewired-leaves k device joined s).waiting within

  -- The records of `v` with its link changed are those of `v`.
  pub changed-before : (q : ℕ) → Has changed q → Has v q
  changed-before q has = there-before s (landed k device led) v changed there (changed-get k v s field link) q has

  pub changed-within : WaitsWithin v → WaitsWithin changed
  changed-within within = set-within s (landed k device led) v changed (changed-get k v s field link) (changed-waiting k v s field link) within

module _ {R : Type 0} (k : RecordRules R) (lawful : IsLawful k) (laws : EventLaws k) where
  pub link-moves : LinkMoves k
  link-moves base v o stay rest joined log desk call moment s field between link keys sound legal holds other_holds covers other_covers disjoint takes to halves stays shut others within closed =
      let twice = lawful.set_twice (at k v s) field between link in
      let c = with_link_changed k v s field link in
      let own = rewired k (device_of k (at k v s)) (put stay s (k.with_link (at k stay s) field link)) s in
      let a = rewired k (device_of k (at k v s)) joined s in
      let one = changed-halves k v o stay rest joined s field between link takes.there twice halves stays others in
      let two = after-halves k v o stay rest joined s field between link takes.there twice halves stays others in
      let there = joined-there k v o stay rest joined s field between link takes.there twice halves stays others in
      let apart : (q : ℕ) → Has c q → Has o q → ⊥ = λ q has other. disjoint q (changed-before k v o stay rest joined s field between link takes.there twice halves stays others q has) other in
      let c_within = changed-within k v o stay rest joined s field between link takes.there twice halves stays others holds.within in
      let a_within = after-within k v o stay rest joined s field between link takes.there twice halves stays others within in
      let all = whole c own rest a o one two apart c_within a_within in
      let parts = whole-halves c own rest a o one two apart c_within a_within in
      let to_all : (t : ℕ) → Contains (named_by (use_of link)) t → Has all t
      = λ t named. one-in all a rest parts t (after-there k v o stay rest joined s field between link takes.there twice halves stays others t (to t named)) in
      let more = link-joins k lawful laws base v o all log desk call moment s field link keys sound legal holds other_holds covers other_covers takes to_all
      (whole-shared c own rest a o one two apart c_within a_within) (whole-within c own rest a o one two apart c_within a_within) in
      record {
        legal = more.legal;
        known = falls k (map_of k base (log ++ link_note desk call moment s field link keys ∷ [])) all a rest more.known parts
            (rescanned-shut k lawful joined (device_of k (at k v s)) s there closed) shut;
      }
