-- Desks that serve requests one after another.
use Rattle.std.proofs.Common.{◌≡◌, ◌⊎◌, ℕ, Bool, true, false, List, [], ◌∷◌, ◌++◌, ◌+◌, ◌-◌, ◌≤◌, length, take, drop, get_or, Option, Some, None, Result, Ok, Err, refl, sym, ap, ◌∙◌, subst, append-nil, append_assoc, inl, inr, arith}
use Rattle.std.proofs.lemmas.List.{length-append, take_all}
use Rattle.std.proofs.lemmas.List.Elements.{All-nil, All-append, All-push}
use Rattle.std.specs.Prelude.{OnOk, OnErr, All, is_err, map}
use Rattle.ioc_device.specs.declared.Ask.{Ask}
use Rattle.ioc_device.specs.declared.Answer.{Answer}
use Rattle.ioc_record.specs.RecordRules.{RecordRules}
use Rattle.ioc_store.specs.World.{World}
use Rattle.ioc_events.specs.declared.event.Event.{Event}
use Rattle.ioc_events.specs.declared.event.Call.TheVariants as call
use Rattle.ioc_journal.specs.declared.entry.JournalEntry.{JournalEntry}
use Rattle.ioc_journal.specs.declared.entry.Note.{Note}
use Rattle.ioc_journal.specs.Line.{noted}
use Rattle.ioc_journal.specs.Account.{DeskView, calls, calls_by, journalled}
use Rattle.ioc_journal.specs.Counting.{is_request}
use Rattle.ioc_journaled_set.specs.Holding.{entry_of_event}
use Rattle.ioc_scan.specs.declared.position.Listed.{Listed}
use Rattle.ioc_shared_queues.specs.declared.rank.Rank.{Rank}
use Rattle.ioc_shared_queues.specs.Turns.{Rounds, Round, Runs, IsServed}
use Rattle.ioc_engine_core.specs.Queued.{WasQueueServed, AreRequested}
use Rattle.ioc_engine_core.specs.Requested.{HasServed, HasServedSome}
use Rattle.ioc_engine_core.proofs.SeenMore.{begins_on}

abbrev Asks : JournalEntry → Type 0
Asks e = is_request e.entry.call ≡ true

-- A desk that has served nothing.
pub served_none : (d : DeskView) → HasServed 0 d d
served_none d = record {
  served = [];
  number = refl;
  next = (let e : d.next ≡ d.next + 0 = omega arith in e);
  begins = ([], sym (append-nil d.seen));
  own = sym (append-nil (calls_by d.number (calls d.seen)));
  many = refl;
  requests = All-nil Asks;
}

pub served_on : (m n : ℕ) (a b c : DeskView) → HasServed m a b → HasServed n b c → HasServed (m + n) a c
served_on m n a b c x y =
    let first = x.next in
    let last = y.next in
    let some = x.many in
    let more = y.many in
    let all = length-append x.served y.served in
    record {
      served = x.served ++ y.served;
      number = y.number ∙ x.number;
      next = (let e : c.next ≡ a.next + (m + n) = omega (arith, first, last) in e);
      begins = begins_on a.seen b.seen c.seen x.begins y.begins;
      own = y.own ∙ ap (λ (es : List JournalEntry). es ++ y.served) x.own ∙ append_assoc (calls_by a.number (calls a.seen)) x.served y.served;
      many = (let e : length (x.served ++ y.served) ≡ m + n = omega (arith, all, some, more) in e);
      requests = All-append Asks x.served y.served x.requests y.requests;
    }

-- Requests and then the same desk, and requests and then more of them.
pub some_none : (d : DeskView) → HasServedSome d d
some_none d = (0, served_none d)

some_same : (a b c : DeskView) → HasServedSome a b → c ≡ b → HasServedSome a c
some_same a b c x same = subst (λ (d : DeskView). HasServedSome a d) (sym same) x

some_on : (a b c : DeskView) → HasServedSome a b → HasServedSome b c → HasServedSome a c
some_on a b c x y = (x.0 + y.0, served_on x.0 y.0 a b c x.1 y.1)

module _ {R : Type 0} (D : Type 0) (k : RecordRules R) (base : World R) (gives : D → Ask → ℕ → Answer → D → Type 0) (limit : ℕ) (clock_gives : ℕ → Type 0) (number : ℕ) (before after : DeskView) (come_to : World R) where
  -- A request that was taken from a queue or from a scan list.
  pub served_one : WasQueueServed D k base gives limit clock_gives number before after come_to → HasServed 1 before after
  served_one was =
      let done = was.3.serves.does in
      let made = was.3.serves.call in
      let entry = journalled before.number before.next (entry_of_event done.entry) in
      record {
        served = entry ∷ [];
        number = made.number;
        next = made.next;
        begins = (made.between ++ noted entry made.keys ∷ [], made.seen ∙ append_assoc before.seen made.between (noted entry made.keys ∷ []));
        own = made.own;
        many = refl;
        requests = All-push Asks [] entry (All-nil Asks) (subst (λ (e : Event). is_request (call.Event e done.entry.reply) ≡ true) (sym done.event) refl);
      }

  -- A request that was served.
  pub served_if_ok : {A E : Type 0} (r : Result A E) → OnOk r (WasQueueServed D k base gives limit clock_gives number before after come_to) → is_err r ≡ false → HasServed 1 before after
  served_if_ok (Ok x) was served = served_one was
  served_if_ok (Err e) was served = absurd (let no : true ≡ false = served in cc)

  -- A request that was served, or refused.
  pub served_or_none : {A E : Type 0} (r : Result A E) → OnOk r (WasQueueServed D k base gives limit clock_gives number before after come_to) → OnErr r (after ≡ before) → HasServedSome before after
  served_or_none (Ok x) was same = (1, served_one was)
  served_or_none (Err e) was same = some_same before before after (some_none before) same

module _ {R : Type 0} (D : Type 0) (k : RecordRules R) (base : World R) (gives : D → Ask → ℕ → Answer → D → Type 0) (limit : ℕ) (clock_gives : ℕ → Type 0) where
  -- The first record was requested, and then the others.
  pub requested_more : (x : Listed) (rest : List Listed) (before between after : DeskView) (come_to : World R) → 1 ≤ length rest → x ≡ get_or rest 0 x
      → WasQueueServed D k base gives limit clock_gives x.number before between come_to
      → AreRequested D k base gives limit clock_gives (map (λ l. l.number) (take (length rest - 1) (drop 1 rest))) between after
      → AreRequested D k base gives limit clock_gives (map (λ l. l.number) rest) before after
  requested_more x [] before between after come_to some is one left = absurd (omega (arith, some))
  requested_more x (y ∷ ys) before between after come_to some is one left =
      let others : take (length (y ∷ ys) - 1) ys ≡ ys = take_all _ ys (omega arith) in (
        between,
        come_to,
        subst (λ (z : Listed). WasQueueServed D k base gives limit clock_gives z.number before between come_to) is one,
        subst (λ (zs : List Listed). AreRequested D k base gives limit clock_gives (map (λ l. l.number) zs) between after) others left,
      )

-- A worker whose server serves each item as a request of its desk, or leaves the desk as it was.
module _ {P S T : Type 0} (takes : P → Rank → T → P → Type 0) (finds_empty : P → Rank → P → Type 0)
    (sees_closed : P → P → Type 0) (serves refuses hands_back : S → T → S → Type 0) (desk_of : S → DeskView)
    (one : (x : S) (item : T) (y : S) → serves x item y → HasServed 1 (desk_of x) (desk_of y))
    (none : (x : S) (item : T) (y : S) → refuses x item y → desk_of y ≡ desk_of x)
    (back : (x : S) (item : T) (y : S) → hands_back x item y → desk_of y ≡ desk_of x) where
  still : (x y : S) → desk_of y ≡ desk_of x → HasServedSome (desk_of x) (desk_of y)
  still x y same = some_same (desk_of x) (desk_of x) (desk_of y) (some_none (desk_of x)) same

  item_served : (x : S) (item : T) (y : S) → IsServed serves refuses hands_back x item y → HasServedSome (desk_of x) (desk_of y)
  item_served x item y (inl served) = (1, one x item y served)
  item_served x item y (inr refused) = still x y (back refused.0 item y refused.2 ∙ none x item refused.0 refused.1)

  round_served : (round : Option T) (l : P) (x : S) (m : P) (y : S) → Round takes finds_empty sees_closed serves refuses hands_back round l x m y → HasServedSome (desk_of x) (desk_of y)
  round_served (Some item) l x m y made = item_served x item y made.3
  round_served None l x m y made = still x y (ap desk_of made.3)

  rounds_served : (rounds : List (Option T)) (l : P) (x : S) (m : P) (y : S) → Rounds takes finds_empty sees_closed serves refuses hands_back rounds l x m y → HasServedSome (desk_of x) (desk_of y)
  rounds_served [] l x m y made = still x y (ap desk_of made.1)
  rounds_served (round ∷ earlier) l x m y made =
      some_on (desk_of x) (desk_of made.1) (desk_of y) (rounds_served earlier l x made.0 made.1 made.2) (round_served round made.0 made.1 m y made.3)

  pub runs_served : (l : P) (x : S) (m : P) (y : S) → Runs takes finds_empty sees_closed serves refuses hands_back l x m y → HasServedSome (desk_of x) (desk_of y)
  runs_served l x m y made =
      some_same (desk_of x) (desk_of made.2) (desk_of y) (rounds_served made.0 l x made.1 made.2 made.3) (ap desk_of made.4.3)
