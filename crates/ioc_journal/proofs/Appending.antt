-- A journal with one more call, the desk that makes it, and its receipt.
use Rattle.std.proofs.Common.{◌≡◌, ℕ, ◌+◌, ◌<◌, ◌≤◌, ◌^◌, List, [], ◌∷◌, ◌++◌, length, drop, Option, refl, sym, ap, ap₂, ◌∙◌, subst, inl, arith, length-append}
use Rattle.atomic_table.specs.Seated.{TableId}
use Rattle.ioc_ledger.specs.Requests.{capped}
use Rattle.ioc_ledger.specs.Shared.{ShareView}
use Rattle.ioc_ledger.specs.declared.tally.Tally.{Tally}
use Rattle.ioc_record.specs.RecordRules.{RecordRules}
use Rattle.ioc_store.specs.World.{World}
use Rattle.ioc_events.specs.declared.event.Entry.{Entry}
use Rattle.ioc_journal.specs.declared.base.JournalBase.{JournalBase}
use Rattle.ioc_journal.specs.declared.cell.View.{View}
use Rattle.ioc_journal.specs.declared.entry.JournalEntry.{JournalEntry}
use Rattle.ioc_journal.specs.declared.entry.Note.{Note}
use Rattle.ioc_journal.specs.declared.event_counts.SentCounts.{SentCounts}
use Rattle.ioc_journal.specs.Key.{Key, Has}
use Rattle.ioc_journal.specs.KeyLaws.{has_left, has_right}
use Rattle.ioc_journal.specs.Line.{Continues, keeper, holder, noted}
use Rattle.ioc_journal.specs.Legal.{IsLegal, map_of}
use Rattle.ioc_journal.specs.Account.{DeskView, desk_view, desk_key, journalled, calls, Below, MayBegin, IsAccount, HasCalled}
use Rattle.ioc_journal.specs.Counting.{one_if_request, sent_by, counts_of, dropped_in, AreTicketsOf, DoesCount, IsFew, IsRecorded, MayAppend, BothMayAppend}
use Rattle.ioc_journal.specs.Desks.{LeadsFrom, IsKept, IsDesk, IsReceipt}
use Rattle.ioc_journal.specs.Tickets.{TicketsView, AreTickets}
use Rattle.ioc_journal.proofs.Adding.{account_then, below_then, called}
use Rattle.ioc_journal.proofs.Bases.{still_leads}
use Rattle.ioc_journal.proofs.Calls.{below_other, counted}
use Rattle.ioc_journal.proofs.CountsThen.{counts-then}
use Rattle.ioc_journal.proofs.DropsThen.{drops-then}
use Rattle.ioc_journal.proofs.TicketsThen.{tickets-then, begun-then}
use Rattle.ioc_journal.proofs.Written.{one_more_entry}

-- What is known of a list with one more call: the next one of desk `n`, stored as `made`.
pub record IsOneMore {R : Type 0} (k : RecordRules R) (base : World R) (log : List Note) (n next : ℕ) (seen : List Note) (done : Entry) (keys : List Key) (made : JournalEntry)
    (sent : SentCounts) (share : Option ShareView) (before after : Tally) : Type 0 where
  pub made_is : made ≡ journalled n next done
  pub account : IsAccount k base (log ++ noted made keys ∷ [])
  pub below : Below n (next + 1) (calls (log ++ noted made keys ∷ []))
  pub count : next + 1 ≤ length (log ++ noted made keys ∷ [])
  pub call : HasCalled k base (desk_view n next seen) done (desk_view n (next + 1) (log ++ noted made keys ∷ []))
  pub sends : sent ≡ sent_by k (map_of k base log) (noted made keys)
  pub counts : DoesCount k (map_of k base log) (noted made keys) share before after

module _ {R : Type 0} {k : RecordRules R} {base : World R} {table id desk_id : TableId} {v u : View} {items : List JournalEntry} {dropped : ℕ} {from : Option (JournalBase R)} {desks : ℕ} {tickets : TicketsView} {book : Tally} {items_dropped : ℕ} {n next : ℕ}
    (kept : IsKept k base table id v items dropped from desks tickets book items_dropped) (desk : IsDesk k base table desk_id u n next) {d : DeskView} (view_is : desk_view n next u.seen ≡ d)
    {done : Entry} (made : JournalEntry) (stored : made ≡ journalled d.number d.next done) {sent : SentCounts} {share : Option ShareView} {before after : Tally} where
  one-more : (owns : List Key) → Continues u.seen u.owns v.seen → (known : List Note) (owned : List Key) → Continues known owned v.seen → ((key : Key) → Has key owned → Has key owns) → MayBegin known owned done.call
      → IsLegal k base (v.seen ++ noted (journalled n next done) (owns ++ u.owns) ∷ [])
      → sent ≡ sent_by k (map_of k base v.seen) (noted (journalled n next done) (owns ++ u.owns))
      → DoesCount k (map_of k base v.seen) (noted (journalled n next done) (owns ++ u.owns)) share before after
      → IsOneMore k base v.seen n next u.seen done (owns ++ u.owns) made sent share before after
  one-more owns goes_on known owned on within begins legal sends counts =
      let own = ap (λ (x : View). x.owns) desk.holds in
      let stays = λ (key : Key) (has : Has key owned). has_left key owns u.owns (within key has) in
      let is = subst (λ (x : DeskView). made ≡ journalled x.number x.next done) (sym view_is) stored in
      subst (λ (m : JournalEntry). IsOneMore k base v.seen n next u.seen done (owns ++ u.owns) m sent share before after) (sym is) (record {
        made_is = refl;
        account = account_then k base v.seen u.seen n next done owns u.owns own kept.account goes_on desk.below legal known owned on stays begins;
        below = below_then k base v.seen u.seen n next done owns u.owns own kept.account goes_on desk.below legal known owned on stays begins;
        count = counted u.seen v.seen u.owns (noted (journalled n next done) (owns ++ u.owns)) next desk.count goes_on;
        call = called k base v.seen u.seen n next done owns u.owns own kept.account goes_on desk.below legal known owned on stays begins;
        sends = sends;
        counts = counts;
      })

  -- The call concerns one set, or two.
  pub one-set : {set : View} → MayAppend k base set done sent share before after → Continues set.seen set.owns v.seen × Continues u.seen u.owns v.seen
      → IsOneMore k base v.seen n next u.seen done (set.owns ++ u.owns) made sent share before after
  one-set {set} may on =
      one-more set.owns on.1 set.seen set.owns on.0 (λ key has. has) may.begins (may.follows v.seen n next u.owns kept.sound on.0 kept.account.legal)
      (may.sends v.seen n next u.owns kept.sound on.0 kept.account.legal) (may.counts v.seen n next u.owns kept.sound on.0 kept.account.legal)

  pub two-sets : {one other : View} → BothMayAppend k base one other done sent share before after → Continues one.seen one.owns v.seen × Continues other.seen other.owns v.seen × Continues u.seen u.owns v.seen
      → IsOneMore k base v.seen n next u.seen done ((one.owns ++ other.owns) ++ u.owns) made sent share before after
  two-sets {one} {other} may on =
      one-more (one.owns ++ other.owns) on.2 other.seen other.owns on.1 (λ key has. has_right key one.owns other.owns has) may.begins
      (may.follows v.seen n next u.owns kept.sound on.0 on.1 kept.account.legal) (may.sends v.seen n next u.owns kept.sound on.0 on.1 kept.account.legal)
      (may.counts v.seen n next u.owns kept.sound on.0 on.1 kept.account.legal)

module _ {R : Type 0} {k : RecordRules R} {base : World R} {log : List Note} {n next : ℕ} {seen : List Note} {done : Entry} {keys : List Key} {made : JournalEntry} {sent : SentCounts} {share : Option ShareView} {before after : Tally}
    (more : IsOneMore k base log n next seen done keys made sent share before after) where
  -- The list is that of the call as the desk made it.
  pub ends-so : log ++ noted made keys ∷ [] ≡ log ++ noted (journalled n next done) keys ∷ []
  ends-so = ap (λ (m : JournalEntry). log ++ noted m keys ∷ []) more.made_is

  pub desk-then : {table id : TableId} {u : View} → IsDesk k base table id u n next → (id_then : TableId) (w : View) → id_then ≡ id → w ≡ holder (log ++ noted made keys ∷ []) u.owns → IsDesk k base table id_then w n (next + 1)
  desk-then desk id_then w same holds =
      let told = sym (ap (λ (x : View). x.seen) holds) in
      record {
        same = same ∙ desk.same;
        holds = holds ∙ ap₂ holder told (ap (λ (x : View). x.owns) desk.holds);
        below = subst (λ (l : List Note). Below n (next + 1) (calls l)) told more.below;
        count = subst (λ (l : List Note). next + 1 ≤ length l) told more.count;
        account = subst (IsAccount k base) told more.account;
      }

  pub call-then : {d : DeskView} (w : View) (own : List Key) → desk_view n next seen ≡ d → w ≡ holder (log ++ noted made keys ∷ []) own → HasCalled k base d done (desk_view n (next + 1) w.seen)
  call-then w own view_is holds =
      subst (λ (x : DeskView). HasCalled k base x done (desk_view n (next + 1) w.seen)) view_is
      (subst (λ (l : List Note). HasCalled k base (desk_view n next seen) done (desk_view n (next + 1) l)) (sym (ap (λ (x : View). x.seen) holds)) more.call)

module _ {R : Type 0} {k : RecordRules R} {base : World R} {v : View} {n next : ℕ} {seen : List Note} {done : Entry} {keys : List Key} {made : JournalEntry} {sent : SentCounts} {share : Option ShareView} {before after : Tally}
    (more : IsOneMore k base v.seen n next seen done keys made sent share before after)
    {table id : TableId} {items : List JournalEntry} {dropped : ℕ} {from : Option (JournalBase R)} {desks : ℕ} {tickets : TicketsView} {book : Tally} {items_dropped : ℕ} (kept : IsKept k base table id v items dropped from desks tickets book items_dropped) where
  pub receipt-then : (place : ℕ) (id_then : TableId) (w : View) → place ≡ length v.seen → id_then ≡ id → w ≡ holder (v.seen ++ noted made keys ∷ []) [] → IsReceipt k base table id_then w place
  receipt-then place id_then w at same holds =
      let told = sym (ap (λ (x : View). x.seen) holds) in
      record {
        same = same ∙ kept.same;
        holds = holds ∙ ap (λ (l : List Note). holder l []) told;
        ends = subst (λ (l : List Note). length l ≡ place + 1) told (omega (arith, length-append v.seen (noted made keys ∷ []), at));
        account = subst (IsAccount k base) told more.account;
      }

  -- As many tickets begin as once requests are sent.
  pub begun-so : (batch r : ℕ) → r ≡ one_if_request made.entry.call
      → ((requests once : ℕ) → AreTickets tickets requests once → (r + requests) + (sent.once + once) < 2 ^ 63 → batch ≡ sent.once)
      → (log : List Note) → log ≡ v.seen ++ noted made keys ∷ [] → IsFew k base log → batch ≡ sent.once
  begun-so batch r request_is begun log is few =
      begun-then k base v.seen (noted made keys) sent.once r (ap (λ (s : SentCounts). s.once) more.sends) request_is tickets batch kept.tickets_are begun (subst (IsFew k base) is few)

  -- The journal with the call, its tickets, and what it counts.
  pub kept-then : {items_then : List JournalEntry} {tickets_then : TicketsView} {book_then : Tally} (id_then : TableId) (w : View) (r : ℕ)
      → (Has (desk_key n) (desk_key n ∷ []) → Has (desk_key n) v.born) → id_then ≡ id → w ≡ keeper (v.seen ++ noted made keys ∷ []) v.born
      → items_then ≡ items ++ made ∷ [] → r ≡ one_if_request made.entry.call
      → ((requests once : ℕ) → AreTickets tickets requests once → AreTickets tickets_then (r + requests) (sent.once + once))
      → IsRecorded share before after book book_then → (items_then_dropped : ℕ) → items_then_dropped ≡ capped (items_dropped + sent.dropped)
      → IsKept k base table id_then w items_then dropped from desks tickets_then book_then items_then_dropped
  kept-then {items_then} {tickets_then} {book_then} id_then w r born same keeps filled request_is ticketed recorded items_then_dropped drops =
      let told = sym (ap (λ (x : View). x.seen) keeps) in
      let born_is = ap (λ (x : View). x.born) keeps in
      let known : n < desks = kept.given (desk_key n) (born (inl refl)) refl in
      let desk_is = ap (λ (m : JournalEntry). m.desk) more.made_is in
      record {
        same = same ∙ kept.same;
        keeps = keeps ∙ ap₂ keeper told (sym born_is);
        items_are = filled ∙ one_more_entry items dropped v.seen made keys kept.items_are kept.within ∙ ap (λ (l : List Note). drop dropped (calls l)) told;
        within = subst (λ (l : List Note). dropped ≤ length l) told (omega (arith, kept.within, length-append v.seen (noted made keys ∷ [])));
        few = kept.few;
        leads_from = subst (λ (l : List Note). LeadsFrom k base from dropped l) told (still_leads k base from dropped v.seen (noted made keys) kept.within kept.leads_from);
        sound = kept.sound;
        account = subst (IsAccount k base) told more.account;
        given = λ key has kind. kept.given key (subst (Has key) born_is has) kind;
        new_desk = λ m le. subst (λ (l : List Note). Below m 0 (calls l)) told (below_other v.seen made keys m (λ is. omega (arith, is, le, known, desk_is)) (kept.new_desk m le));
        tickets_are = subst (λ (l : List Note). AreTicketsOf k base l tickets_then) told (tickets-then k base v.seen (noted made keys) sent.once r (ap (λ (s : SentCounts). s.once) more.sends) request_is tickets tickets_then kept.tickets_are ticketed);
        counted = subst (λ (l : List Note). book_then ≡ counts_of k base l) told (counts-then k base v.seen (noted made keys) share before after book book_then more.counts kept.counted recorded);
        drops = subst (λ (l : List Note). items_then_dropped ≡ capped (dropped_in k base l)) told
            (drops-then k base v.seen (noted made keys) items_dropped items_then_dropped sent.dropped (ap (λ (s : SentCounts). s.dropped) more.sends) kept.drops drops);
      }
