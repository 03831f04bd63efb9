-- A request counts the parts of a put with notification as records join and leave it.
use Rattle.std.proofs.Common.{◌≡◌, ℕ, ◌+◌, ◌-◌, ◌^◌, ◌<◌, ◌≤◌, Bool, true, false, cond, eqb, List, [], ◌∷◌, ◌++◌, Option, Some, None as Nothing_, is_some, refl, sym, ap, subst, ◌∙◌, arith}
use Rattle.std.specs.FinMap.{len}
use Rattle.ioc_notify.specs.declared.live_numbers.Live.{Live}
use Rattle.ioc_notify.specs.Living.{gained, lost as lost_by, is_at_its_last}
use Rattle.ioc_values.specs.declared.value.Finished.{Finished}
use Rattle.ioc_dbcommon.specs.declared.common.Common.{Common}
use Rattle.ioc_dbcommon.specs.Steps.{with_notification}
use Rattle.ioc_record.specs.RecordRules.{RecordRules}
use Rattle.ioc_record.specs.Laws.{IsLawful}
use Rattle.ioc_store.specs.declared.call.Call.{Call}
use Rattle.ioc_store.specs.World.{World, Has, IsClosed, Keeps, common_at, changed, called, taken_on, let_go}
use Rattle.ioc_store.specs.Given.{Answers}
use Rattle.ioc_store.specs.Notifying.{taken_over, holding, passed_on, notified_as, notified}
use Rattle.ioc_process.specs.Alongside.{Guards, request-goes, takes_completion-goes}
use Rattle.ioc_process.specs.Keeping.{KeptFrom, Linked, kept, start}
use Rattle.ioc_process.specs.Processing.{request, resumed_with}
use Rattle.ioc_events.specs.Holding.{how_many, holders}
use Rattle.ioc_events.proofs.Counting.{lives, one_if, Counts, counts-same, counts-gained, lives-gained, counts-lost, lives-lost, how_many-append}
use Rattle.ioc_events.proofs.Holders.{ends, stands, holders-few, holds-some, one-more, one-fewer, Alike, alike-put, alike-sent, alike-lost, alike-same, changed-holds}

-- What is taken over is the put with notification of the source, and the target is part of none.
taken_over-some : (source target : Common) (m : ℕ) → taken_over source target ≡ Some m → (source.notification ≡ Some m) × (target.notification ≡ Nothing_)
taken_over-some source target m is =
    elim target.active as (λ b. cond b Nothing_ (cond (is_some target.notification) Nothing_ source.notification) ≡ Some m → (source.notification ≡ Some m) × (target.notification ≡ Nothing_)) [
      | true ↦ λ none. cc
      | false ↦ elim target.notification as (λ o. cond (is_some o) Nothing_ source.notification ≡ Some m → (source.notification ≡ Some m) × (o ≡ Nothing_)) [
        | Nothing_ ↦ λ some. (some, refl)
        | Some n ↦ λ none. cc
      ]
    ] is

ends-more : (n m : ℕ) (es : List ℕ) (b : Bool) → ends n (cond b (es ++ m ∷ []) es) ≡ ends n es + cond b (one_if (eqb m n)) 0
ends-more n m es true = how_many-append (λ x. x) n es (m ∷ [])
ends-more n m es false = omega arith

module _ {R : Type 0} (k : RecordRules R) (lawful : IsLawful k) (w0 : World R) (closed : IsClosed k w0) (few : len w0.records < 2 ^ 63) (once : (n : ℕ) → how_many (λ x. x.number) n w0.waiting ≤ 1) where
  -- The counts are those of the parts, and each that was live or had ended is live or has ended.
  pub record Carried (w : World R) : Type 0 where
    pub waits : w.waiting ≡ w0.waiting
    pub counts : Counts (holders k w) w.live
    pub balance : (n : ℕ) → stands w n ≡ stands w0 n

  pub carried-alike : (w v : World R) → Alike k lawful w v → Carried w → Carried v
  carried-alike w v alike carried = record {
    waits = alike.waiting ∙ carried.waits;
    counts = subst (Counts (holders k v)) (sym alike.live) (counts-same (holders k w) (holders k v) w.live carried.counts alike.held);
    balance = λ n. ap (λ (ls : List Live). lives n ls + ends n v.ended) alike.live ∙ ap (λ (es : List ℕ). lives n w.live + ends n es) alike.ended ∙ carried.balance n;
  }

  taken_on-live : (m : ℕ) (v : World R) → ((taken_on m v).live ≡ gained m v.live) × ((taken_on m v).ended ≡ v.ended) × ((taken_on m v).waiting ≡ v.waiting)
  unfolding taken_on
  taken_on-live m v = (refl, refl, refl)

  taken_on-held : (m : ℕ) (v : World R) (n : ℕ) → holders k (taken_on m v) n ≡ holders k v n
  unfolding taken_on holders
  taken_on-held m v n = refl

  let_go-live : (m : ℕ) (v : World R) → ((let_go m v).live ≡ lost_by m v.live) × ((let_go m v).ended ≡ cond (is_at_its_last m v.live) (v.ended ++ m ∷ []) v.ended) × ((let_go m v).waiting ≡ v.waiting)
  unfolding let_go
  let_go-live m v = (refl, refl, refl)

  let_go-held : (m : ℕ) (v : World R) (n : ℕ) → holders k (let_go m v) n ≡ holders k v n
  unfolding let_go holders
  let_go-held m v n = refl

  room : (w : World R) (m : ℕ) → Keeps k w0 w → w.waiting ≡ w0.waiting → holders k w m + 1 ≤ 2 ^ 64 - 1
  room w m keeps waits =
      let most = holders-few k lawful w m in
      let waiting : how_many (λ x. x.number) m w.waiting ≤ 1 = subst (λ xs. how_many (λ x. x.number) m xs ≤ 1) (sym waits) (once m) in
      omega (arith, most, waiting, keeps.count)

  take-carried : (w : World R) (s t m : ℕ) → Keeps k w0 w → Has w s → Has w t → (common_at k w s).notification ≡ Some m → (common_at k w t).notification ≡ Nothing_ → Carried w
      → Carried (taken_on m (changed k w t (with_notification (Some m))))
  take-carried w s t m keeps source target some none carried =
      let v = changed k w t (with_notification (Some m)) in
      let rest = changed-holds k lawful w t (with_notification (Some m)) in
      let taken = taken_on-live m v in
      let live : (taken_on m v).live ≡ gained m w.live = taken.0 ∙ ap (gained m) rest.live in
      let more : (n : ℕ) → holders k (taken_on m v) n ≡ holders k w n + one_if (eqb m n) = λ n. taken_on-held m v n ∙ one-more k lawful w t m target none n in
      record {
        waits = taken.2 ∙ rest.waiting ∙ carried.waits;
        counts = subst (Counts (holders k (taken_on m v))) (sym live)
            (counts-gained (holders k w) (holders k (taken_on m v)) m w.live carried.counts (holds-some k lawful w s m source some) (room w m keeps carried.waits) more);
        balance = λ n.
            ap (λ (ls : List Live). lives n ls + ends n (taken_on m v).ended) live ∙ ap (λ (es : List ℕ). lives n (gained m w.live) + ends n es) (taken.1 ∙ rest.ended)
            ∙ ap (λ (x : ℕ). x + ends n w.ended) (lives-gained (holders k w) (holders k w) m w.live carried.counts n) ∙ carried.balance n;
      }

  holding-carried : (w : World R) (s t : ℕ) → Keeps k w0 w → Has w s → Has w t → Carried w → (o : Option ℕ) → taken_over (common_at k w s) (common_at k w t) ≡ o → Carried (holding k w t o)
  unfolding holding
  holding-carried w s t keeps source target carried Nothing_ is = carried
  holding-carried w s t keeps source target carried (Some m) is =
      let both = taken_over-some (common_at k w s) (common_at k w t) m is in
      take-carried w s t m keeps source target both.0 both.1 carried

  pass-carried : (w : World R) (s t : ℕ) → Keeps k w0 w → Has w s → Has w t → Carried w → Carried (passed_on k w s t)
  unfolding passed_on
  pass-carried w s t keeps source target carried = holding-carried w s t keeps source target carried _ refl

  lose-carried : (w : World R) (s m : ℕ) → Has w s → (common_at k w s).notification ≡ Some m → Carried w → Carried (let_go m (changed k w s (with_notification Nothing_)))
  lose-carried w s m there some carried =
      let v = changed k w s (with_notification Nothing_) in
      let rest = changed-holds k lawful w s (with_notification Nothing_) in
      let gone = let_go-live m v in
      let live : (let_go m v).live ≡ lost_by m w.live = gone.0 ∙ ap (lost_by m) rest.live in
      let ended : (let_go m v).ended ≡ cond (is_at_its_last m w.live) (w.ended ++ m ∷ []) w.ended =
      gone.1 ∙ ap (λ (ls : List Live). cond (is_at_its_last m ls) (v.ended ++ m ∷ []) v.ended) rest.live ∙ ap (λ (es : List ℕ). cond (is_at_its_last m w.live) (es ++ m ∷ []) es) rest.ended in
      let less : (n : ℕ) → holders k (let_go m v) n + one_if (eqb m n) ≡ holders k w n = λ n. ap (λ (x : ℕ). x + one_if (eqb m n)) (let_go-held m v n) ∙ one-fewer k lawful w s m there some n in
      let has = holds-some k lawful w s m there some in
      record {
        waits = gone.2 ∙ rest.waiting ∙ carried.waits;
        counts = subst (Counts (holders k (let_go m v))) (sym live) (counts-lost (holders k w) (holders k (let_go m v)) m w.live carried.counts has less);
        balance = λ n.
            let one = lives-lost (holders k w) (holders k (let_go m v)) m w.live carried.counts has n in
            let two = ends-more n m w.ended (is_at_its_last m w.live) in
            ap (λ (ls : List Live). lives n ls + ends n (let_go m v).ended) live ∙ ap (λ (es : List ℕ). lives n (lost_by m w.live) + ends n es) ended
            ∙ omega (arith, one, two, carried.balance n);
      }

  told-carried : (w : World R) (s : ℕ) → Has w s → Carried w → (o : Option ℕ) → (common_at k w s).notification ≡ o → Carried (notified_as k w s o)
  unfolding notified_as
  told-carried w s there carried Nothing_ is = carried
  told-carried w s there carried (Some m) is = lose-carried w s m there is carried

  pub tell-carried : (w : World R) (s : ℕ) → Has w s → Carried w → Carried (notified k w s)
  unfolding notified
  tell-carried w s there carried = told-carried w s there carried _ refl

  called-alike : (one : Call) (w : World R) → Alike k lawful w (called one w)
  unfolding called
  called-alike one w = alike-same k lawful w _ refl refl refl refl

  abbrev Goes_on : World R → World R → Type 0
  Goes_on w v = KeptFrom k lawful w0 closed w v × Carried w

  carries : Guards k (λ n. Has w0 n) (Linked k lawful w0 closed) Goes_on
  carries =
      let g = kept k lawful w0 closed in
      record {
        same = λ inv n may. g.same inv.0 n may;
        good = λ inv n may. g.good inv.0 n may;
        calls = λ inv. g.calls inv.0;
        moment = λ inv. g.moment inv.0;
        link = λ {n} {r} good target links. g.link good target links;
        common = λ {n} {r} good c same. g.common good c same;
        taken = λ {n} {r} good got. g.taken good got;
        posted = λ {n} {r} good changes. g.posted good changes;
        finished = λ {n} {r} good x. g.finished good x;
        stored = λ {n} {r} good f v. g.stored good f v;
        put = λ {w} {v} inv n may r good same. (g.put inv.0 n may r good same, carried-alike w _ (alike-put k lawful w n r (inv.0.1.has n may) same) inv.1);
        call = λ {w} {v} inv one. (g.call inv.0 one, carried-alike w _ (called-alike one w) inv.1);
        send = λ {w} {v} inv item. (g.send inv.0 item, carried-alike w _ (alike-sent k lawful item w) inv.1);
        lose = λ {w} {v} inv. (g.lose inv.0, carried-alike w _ (alike-lost k lawful w) inv.1);
        pass = λ {w} {v} inv s may t there. (g.pass inv.0 s may t there, pass-carried w s t inv.0.1 (inv.0.1.has s may) (inv.0.1.has t there) inv.1);
        tell = λ {w} {v} inv s may. (g.tell inv.0 s may, tell-carried w s (inv.0.1.has s may) inv.1);
      }

  begins : Counts (holders k w0) w0.live → Goes_on w0 w0
  begins counts = (start k lawful w0 closed, record { waits = refl; counts = counts; balance = λ n. refl })

  pub request-carried : (answers : Answers) (s : ℕ) → Has w0 s → Counts (holders k w0) w0.live → Carried (request k answers w0 s).world
  request-carried answers s there counts = (request-goes k lawful _ _ _ carries answers (begins counts) s there).inv.1

  pub takes_completion-carried : (answers : Answers) (s : ℕ) → Has w0 s → (x : Finished) → Counts (holders k w0) w0.live → Carried (resumed_with k answers w0 s x).world
  takes_completion-carried answers s there x counts = (takes_completion-goes k lawful _ _ _ carries answers (begins counts) s there x).inv.1
