use Rattle.ioc_journal.proofs.journal.Journal.begin_called.Goals as goal

pub invariant_of-self : goal.invariant_of-self
invariant_of-self g c =
    let i = c.self.invariant in
    record {
      same = i.same;
      keeps = i.keeps;
      items_are = i.items_are;
      within = i.within;
      few = i.few;
      leads_from = i.leads_from;
      sound = i.sound;
      account = i.account;
      given = i.given;
      new_desk = i.new_desk;
      tickets_are = c.call.ensures.tickets _ _ i.tickets_are;
      counted = i.counted;
      drops = i.drops;
    }
