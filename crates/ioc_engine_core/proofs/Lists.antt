-- The scan lists of an engine after changes.
use Rattle.std.proofs.Common.{◌≡◌, ℕ, Bool, true, false, List, [], ◌∷◌, ◌++◌, Option, refl, sym, ap, ◌∙◌, subst, if◌then◌else◌}
use Rattle.ioc_record.specs.RecordRules.{RecordRules}
use Rattle.ioc_store.specs.World.{World}
use Rattle.ioc_store.specs.declared.scan_change.ScanChange.{ScanChange}
use Rattle.ioc_store.specs.declared.outbox.OutboxItem.{OutboxItem}
use Rattle.ioc_store.specs.declared.outbox.OutboxItem.TheVariants.{Once, Post, Change as Change-item}
use Rattle.ioc_scan.specs.declared.list_name.Placement.{Placement}
use Rattle.ioc_scan.specs.Scanned.{Scanned, changed}
use Rattle.ioc_scan.specs.Changes.{Change, after_changes}
use Rattle.ioc_scan_rules.specs.Asked.{has_record, has_order, with_change, lists_after}
use Rattle.ioc_scan_rules.specs.Places.{place_by}
use Rattle.ioc_engine_core.specs.Lists.{AreListsOf}

-- One more change at the end.
after_one_more : (s : Scanned) (cs : List Change) (c : Change) → after_changes s (cs ++ c ∷ []) ≡ changed (after_changes s cs) c.member c.number c.place
after_one_more s [] c = refl
after_one_more s (d ∷ cs) c = after_one_more (changed s d.member d.number d.place) cs c

module _ {R : Type 0} (k : RecordRules R) (base : World R) where
  changed_are : (s : Scanned) (member number : ℕ) (place : Option Placement) → AreListsOf k base s → AreListsOf k base (changed s member number place)
  changed_are s member number place are =
      let c : Change = record { member = member; number = number; place = place } in
      record {
        records = are.records;
        changes = are.changes ++ c ∷ [];
        world = are.world;
        are = ap (λ l. changed l member number place) are.are ∙ sym (after_one_more _ are.changes c);
      }

  -- If one of two is chosen by two tests, and both are such lists, so is that one.
  chosen_are : (b d : Bool) (s t : Scanned) → AreListsOf k base s → AreListsOf k base t → AreListsOf k base (if b then (if d then t else s) else s)
  chosen_are true true s t are after = after
  chosen_are true false s t are after = are
  chosen_are false d s t are after = are

  with_change_are : (s : Scanned) (c : ScanChange) → AreListsOf k base s → AreListsOf k base (with_change s c)
  with_change_are s c are =
      let place = place_by c.scanning c.device in
      chosen_are (has_record s c) (has_order s) s (changed s c.target c.number place) are (changed_are s c.target c.number place are)

  pub lists_stay : (s t : Scanned) (item : OutboxItem) → AreListsOf k base s → t ≡ lists_after s item → AreListsOf k base t
  lists_stay s t (Once n) are is = subst (AreListsOf k base) (sym is) are
  lists_stay s t (Post name) are is = subst (AreListsOf k base) (sym is) are
  lists_stay s t (Change-item c) are is = subst (AreListsOf k base) (sym is) (with_change_are s c are)
