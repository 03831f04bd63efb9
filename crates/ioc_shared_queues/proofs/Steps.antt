-- Each step keeps the rule of the queue.
use Rattle.std.proofs.Common.{◌≡◌, ◌≢◌, ℕ, zero, suc, ◌<◌, true, false, List, [], ◌∷◌, ◌++◌, length, set, sym, refl, ap, ◌∙◌, subst, ⊎_elim, ◌⊎◌, inl, inr, append_assoc, eqb, eq-eqb, ne_eqb, arith, length-append}
use Rattle.std.specs.List.{All}
use Rattle.std.proofs.lemmas.List.{append-nil, length-set}
use Rattle.std.proofs.lemmas.Grind.{flat_map-append}
use Rattle.std.proofs.lemmas.List.Elements.{All-append, All-nil, All-cons, All-head, All-tail}
use mathlib.Core.Option.{some, some-ne-none, some-injective}
use lib.ListN.{get_elem?}
use Rattle.crossbeam_queue.specs.Fifo.{Pushes, Pops, Admits, Learns}
use Rattle.crossbeam_queue.proofs.Lists.{at_set}
use Rattle.ioc_shared_queues.specs.declared.order.Change.{Change}
use Rattle.ioc_shared_queues.specs.declared.order.Change.TheVariants.{Put, Taken}
use Rattle.ioc_shared_queues.specs.declared.order.SeenChange.{SeenChange}
use Rattle.ioc_shared_queues.specs.Seen.{seen_change, put_by, taken_by, puts_in, takings_in, IsOthers, Follows, Adds, Puts, Takes, Left}
use Rattle.ioc_shared_queues.specs.Order.{seen_by, puts_of, takings_of, IsBelow, IsByLanes, Fits, InOrder}

abbrev Log : Type 0 → Type 0
Log T = List (ℕ × Change T)

abbrev Seen : Type 0 → Type 0
Seen T = List (SeenChange T)

module _ {T : Type 0} where
  at_below : (views : List (Seen T)) (lane : ℕ) (v : Seen T) → get_elem? views lane ≡ some v → lane < length views
  at_below [] lane v e = absurd (some-ne-none v (sym e))
  at_below (x ∷ xs) zero v e = omega arith
  at_below (x ∷ xs) (suc lane) v e = let b = at_below xs lane v e in omega arith

  at_end : (views : List (Seen T)) (a v : Seen T) (lane : ℕ) → get_elem? (views ++ a ∷ []) lane ≡ some v
      → (get_elem? views lane ≡ some v) ⊎ ((lane ≡ length views) × (a ≡ v))
  at_end [] a v zero e = inr (refl, some-injective a v e)
  at_end [] a v (suc lane) e = absurd (some-ne-none v (sym e))
  at_end (x ∷ xs) a v zero e = inl e
  at_end (x ∷ xs) a v (suc lane) e = ⊎_elim (λ t. inl t) (λ t. inr (ap suc t.0, t.1)) (at_end xs a v lane e)

  -- nothing was missed
  same : (changes : Seen T) → Follows changes changes
  same changes = ([], All-nil IsOthers, sym (append-nil changes))

  all_puts : (lane : ℕ) (log : Log T) → puts_in (seen_by lane log) ≡ puts_of log
  all_puts lane [] = refl
  all_puts lane (e ∷ log) = ap (λ l. put_by e.1 ++ l) (all_puts lane log)

  all_takings : (lane : ℕ) (log : Log T) → takings_in (seen_by lane log) ≡ takings_of log
  all_takings lane [] = refl
  all_takings lane (e ∷ log) = ap (λ l. taken_by e.1 ++ l) (all_takings lane log)

  seen_more : (lane by : ℕ) (change : Change T) (log : Log T)
      → seen_by lane (log ++ (by, change) ∷ []) ≡ seen_by lane log ++ seen_change (eqb lane by) change ∷ []
  seen_more lane by change [] = refl
  seen_more lane by change (e ∷ log) = ap (λ l. seen_change (eqb lane e.0) e.1 ∷ l) (seen_more lane by change log)

  puts_more : (by : ℕ) (change : Change T) (log : Log T) → puts_of (log ++ (by, change) ∷ []) ≡ puts_of log ++ put_by change
  puts_more by change log =
      flat_map-append (λ e. put_by e.1) log ((by, change) ∷ []) ∙ ap (λ l. puts_of log ++ l) (append-nil (put_by change))

  takings_more : (by : ℕ) (change : Change T) (log : Log T) → takings_of (log ++ (by, change) ∷ []) ≡ takings_of log ++ taken_by change
  takings_more by change log =
      flat_map-append (λ e. taken_by e.1) log ((by, change) ∷ []) ∙ ap (λ l. takings_of log ++ l) (append-nil (taken_by change))

  -- a change by another lane follows
  follows_more : (seen now : Seen T) (m : SeenChange T) → IsOthers m → Follows seen now → Follows seen (now ++ m ∷ [])
  follows_more seen now m others f = (
    f.0 ++ m ∷ [],
    All-append IsOthers f.0 (m ∷ []) f.1 (All-cons IsOthers m [] others (All-nil IsOthers)),
    ap (λ l. l ++ m ∷ []) f.2 ∙ append_assoc seen f.0 (m ∷ []),
  )

  -- a change of another lane changes nothing for this one
  fits_other : (lane by : ℕ) (change : Change T) (log : Log T) (v : Seen T) → lane ≢ by → Fits log lane v
      → Fits (log ++ (by, change) ∷ []) lane v
  fits_other lane by change log v apart f =
      let more : seen_by lane (log ++ (by, change) ∷ []) ≡ seen_by lane log ++ seen_change false change ∷ [] =
      seen_more lane by change log ∙ ap (λ b. seen_by lane log ++ seen_change b change ∷ []) (ne_eqb lane by apart) in
      subst (λ l. Follows v l) (sym more) (follows_more v (seen_by lane log) (seen_change false change) refl f)

  own_more : (lane : ℕ) (change : Change T) (log : Log T)
      → seen_by lane (log ++ (lane, change) ∷ []) ≡ seen_by lane log ++ seen_change true change ∷ []
  own_more lane change log =
      seen_more lane lane change log ∙ ap (λ b. seen_by lane log ++ seen_change b change ∷ []) (eq-eqb lane lane refl)

  -- the lane's own change
  own_change : (lane : ℕ) (change : Change T) (log : Log T) (v : Seen T) → Fits log lane v
      → Adds v change (seen_by lane (log ++ (lane, change) ∷ []))
  own_change lane change log v f = (f.0, f.1, own_more lane change log ∙ ap (λ l. l ++ seen_change true change ∷ []) f.2)

  by_one_more : (lanes by : ℕ) (change : Change T) (log : Log T) → by < lanes → IsByLanes lanes log
      → IsByLanes lanes (log ++ (by, change) ∷ [])
  by_one_more lanes by change log below all =
      All-append (IsBelow lanes) log ((by, change) ∷ []) all
      (All-cons (IsBelow lanes) (by, change) [] below (All-nil (IsBelow lanes)))

  by_more_lanes : (lanes more : ℕ) (log : Log T) → lanes < more → IsByLanes lanes log → IsByLanes more log
  by_more_lanes lanes more [] less all = All-nil (IsBelow more)
  by_more_lanes lanes more (e ∷ log) less all =
      let a : e.0 < lanes = All-head (IsBelow lanes) e log all in
      All-cons (IsBelow more) e log (omega arith) (by_more_lanes lanes more log less (All-tail (IsBelow lanes) e log all))

  -- a new lane made none of the changes
  others_to : (lanes : ℕ) (log : Log T) → IsByLanes lanes log → All IsOthers (seen_by lanes log)
  others_to lanes [] all = All-nil IsOthers
  others_to lanes (e ∷ log) all =
      let a : e.0 < lanes = All-head (IsBelow lanes) e log all in
      let apart : eqb lanes e.0 ≡ false = ne_eqb lanes e.0 (λ h. omega arith) in
      All-cons IsOthers (seen_change (eqb lanes e.0) e.1) (seen_by lanes log) apart
      (others_to lanes log (All-tail (IsBelow lanes) e log all))

  newcomer : (lanes : ℕ) (log : Log T) → IsByLanes lanes log → Fits log lanes []
  newcomer lanes log all = (seen_by lanes log, others_to lanes log all, refl)

  abbrev AllFit : Log T → List (Seen T) → Type 0
  AllFit log views = (lane : ℕ) (v : Seen T) → get_elem? views lane ≡ some v → Fits log lane v

  -- after a change, where the lane that did it fits, all do
  all_fit : (log : Log T) (views : List (Seen T)) (by : ℕ) (change : Change T) (w : Seen T) → AllFit log views
      → Fits (log ++ (by, change) ∷ []) by w → AllFit (log ++ (by, change) ∷ []) (set views by w)
  all_fit log views by change w all mine j u e =
      ⊎_elim
      (λ t. subst (λ (y : ℕ × Seen T). Fits (log ++ (by, change) ∷ []) y.0 y.1) (λ i. (sym t.0 i, t.1 i)) mine)
      (λ t. fits_other j by change log u t.0 (all j u t.1)) (at_set views by j w u e)

  -- one lane more
  all_fit_more : (log : Log T) (views : List (Seen T)) → IsByLanes (length views) log → AllFit log views → AllFit log (views ++ [] ∷ [])
  all_fit_more log views by all lane v at =
      ⊎_elim (λ t. all lane v t)
      (λ t. subst (λ (y : ℕ × Seen T). Fits log y.0 y.1) (λ i. (sym t.0 i, t.1 i)) (newcomer (length views) log by))
      (at_end views [] v lane at)

  by_lane_more : (views : List (Seen T)) (log : Log T) → IsByLanes (length views) log → IsByLanes (length (views ++ [] ∷ [])) log
  by_lane_more views log all =
      by_more_lanes (length views) (length (views ++ [] ∷ [])) log (omega (arith, length-append views ([] ∷ []))) all

  pub begins : InOrder {T = T} [] ([] ∷ [])
  begins = (
    [],
    refl,
    All-nil (IsBelow 1),
    λ lane v at. ⊎_elim (λ t. absurd (some-ne-none v (sym t)))
        (λ t. subst (λ u. Fits [] lane u) t.1 (same [])) (at_end [] [] v lane at),
  )

  pub admits : Admits (InOrder {T = T}) []
  admits items views h = (h.0, h.1, by_lane_more views h.0 h.2, all_fit_more h.0 views h.2 h.3)

  pub puts : (n lane : ℕ) (v : Seen T) (x : T) → Pushes (InOrder {T = T}) n lane v x (λ w. Puts v x w)
  puts n lane v x items views room h at =
      let change : Change T = Put x in
      let log : Log T = h.0 ++ (lane, change) ∷ [] in
      let w : Seen T = seen_by lane log in
      let left : List T = items ++ x ∷ [] in
      let order : puts_of log ≡ takings_of log ++ left =
      puts_more lane change h.0 ∙ ap (λ l. l ++ x ∷ []) h.1 ∙ append_assoc (takings_of h.0) items (x ∷ [])
      ∙ ap (λ l. l ++ left) (sym (takings_more lane change h.0 ∙ append-nil (takings_of h.0))) in (
        w,
        (
          log,
          order,
          subst (λ k. IsByLanes k log) (sym (length-set views lane w))
              (by_one_more (length views) lane change h.0 (at_below views lane v at) h.2),
          all_fit h.0 views lane change w h.3 (same w),
        ),
        (
          own_change lane change h.0 v (h.3 lane v at),
          (items, all_puts lane log ∙ order ∙ ap (λ l. l ++ left) (sym (all_takings lane log))),
        ),
      )

  pub takes : (lane : ℕ) (v : Seen T) → Pops (InOrder {T = T}) lane v (λ x w. Takes v x w)
  takes lane v x items views h at =
      let change : Change T = Taken x in
      let log : Log T = h.0 ++ (lane, change) ∷ [] in
      let w : Seen T = seen_by lane log in
      let order : puts_of log ≡ takings_of log ++ items =
      puts_more lane change h.0 ∙ append-nil (puts_of h.0) ∙ h.1 ∙ sym (append_assoc (takings_of h.0) (x ∷ []) items)
      ∙ ap (λ l. l ++ items) (sym (takings_more lane change h.0)) in (
        w,
        (
          log,
          order,
          subst (λ k. IsByLanes k log) (sym (length-set views lane w))
              (by_one_more (length views) lane change h.0 (at_below views lane v at) h.2),
          all_fit h.0 views lane change w h.3 (same w),
        ),
        (
          own_change lane change h.0 v (h.3 lane v at),
          (items, all_puts lane log ∙ order ∙ ap (λ l. l ++ items) (sym (all_takings lane log))),
        ),
      )

  pub learns : (lane : ℕ) (v : Seen T) → Learns (InOrder {T = T}) lane v (Left v)
  learns lane v items views h at =
      let mine = h.3 lane v at in
      (seen_by lane h.0, mine, all_puts lane h.0 ∙ h.1 ∙ ap (λ l. l ++ items) (sym (all_takings lane h.0)))
