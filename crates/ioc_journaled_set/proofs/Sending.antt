-- Once requests among sent items, and events that send none.
use Rattle.std.proofs.Common.{◌≡◌, ℕ, ◌+◌, true, List, [], ◌∷◌, ◌++◌, length, Option, None, refl, sym, ◌∙◌, subst, arith}
use Rattle.ioc_record.specs.RecordRules.{RecordRules}
use Rattle.ioc_store.specs.World.{World}
use Rattle.ioc_store.specs.declared.outbox.OutboxItem.{OutboxItem}
use Rattle.ioc_store.specs.declared.outbox.OutboxItem.TheVariants.{Once, Post, Change}
use Rattle.ioc_events.specs.declared.event.Entry.{Entry}
use Rattle.ioc_journal.specs.declared.entry.Note.{Note}
use Rattle.ioc_journal.specs.declared.event_counts.SentCounts.{SentCounts}
use Rattle.ioc_journal.specs.Key.{Key}
use Rattle.ioc_journal.specs.Line.{noted}
use Rattle.ioc_journal.specs.Legal.{map_of}
use Rattle.ioc_journal.specs.Account.{journalled}
use Rattle.ioc_journal.specs.Counting.{once_in, nothing_sent, MaySend, MayCount, BothMayCount, DoesCount}
use Rattle.ioc_ledger.specs.Shared.{ShareView}
use Rattle.ioc_ledger.specs.declared.tally.Tally.{Tally}
use Rattle.ioc_journal.specs.CountLaws.{counts_nothing, is_link_change, QuestionsCountNothing, LinksCountNothing}
use Rattle.ioc_journaled_set.specs.Sent.{MayCountNothing}

-- One more item that is a once request is one more.
pub one_more_once : (xs : List OutboxItem) (n : ℕ) → length (once_in (xs ++ Once n ∷ [])) ≡ length (once_in xs) + 1
one_more_once [] n = refl
one_more_once (Once m ∷ xs) n = let rest = one_more_once xs n in omega (arith, rest)
one_more_once (Post t ∷ xs) n = one_more_once xs n
one_more_once (Change t ∷ xs) n = one_more_once xs n

-- One more item that is none leaves their number.
pub none_more_once : (xs : List OutboxItem) (x : OutboxItem) → ((n : ℕ) → x ≡ Once n → ⊥) → length (once_in (xs ++ x ∷ [])) ≡ length (once_in xs)
none_more_once [] (Once n) isnt = absurd (isnt n refl)
none_more_once [] (Post t) isnt = refl
none_more_once [] (Change t) isnt = refl
none_more_once (Once m ∷ xs) x isnt = let rest = none_more_once xs x isnt in omega (arith, rest)
none_more_once (Post t ∷ xs) x isnt = none_more_once xs x isnt
none_more_once (Change t ∷ xs) x isnt = none_more_once xs x isnt

-- An event that counts nothing.
module _ {R : Type 0} (k : RecordRules R) (base : World R) (seen : List Note) (owned : List Key) (entry : Entry) (nothing : MayCountNothing k base seen owned entry) where
  pub sends_none : (sent : SentCounts) → sent ≡ nothing_sent → MaySend k base seen owned entry sent
  sends_none sent is log desk call own sound go legal = is ∙ sym (nothing log desk call own sound go legal).sent

  pub counts_none : (share : Option ShareView) (before after : Tally) → share ≡ None → MayCount k base seen owned entry share before after
  counts_none share before after is log desk call own sound go legal =
      subst (λ (o : Option ShareView). DoesCount k (map_of k base log) (noted (journalled desk call entry) (owned ++ own)) o before after) (sym is) (nothing log desk call own sound go legal).tally

-- A question counts nothing.
module _ {R : Type 0} (k : RecordRules R) (law : QuestionsCountNothing k) (base : World R) (entry : Entry) (nothing : counts_nothing entry.call ≡ true) (seen : List Note) (owned : List Key) where
  pub asks_none : MayCountNothing k base seen owned entry
  asks_none log desk call own sound go legal = law (map_of k base log) (noted (journalled desk call entry) (owned ++ own)) nothing

-- A link change counts nothing.
module _ {R : Type 0} (k : RecordRules R) (law : LinksCountNothing k) (base : World R) (entry : Entry) (changes : is_link_change entry.call ≡ true) (seen : List Note) (owned : List Key) where
  pub links_count_none : (also_seen : List Note) (also_owned : List Key) (share : Option ShareView) (before after : Tally) → share ≡ None → BothMayCount k base seen owned also_seen also_owned entry share before after
  links_count_none also_seen also_owned share before after is log desk call own sound go also legal =
      subst (λ (o : Option ShareView). DoesCount k (map_of k base log) (noted (journalled desk call entry) ((owned ++ also_owned) ++ own)) o before after) (sym is) (law (map_of k base log) (noted (journalled desk call entry) ((owned ++ also_owned) ++ own)) changes).0
