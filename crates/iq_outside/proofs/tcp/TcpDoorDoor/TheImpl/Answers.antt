-- what a door over TCP tells is what a door tells
use Rattle.std.proofs.Common.{◌≡◌, refl, sym, rules, inl}
use Rattle.std.specs.Prelude.{Option, None, Some, Result, Ok, Err, false, ◌||◌, is_none, IfOk}
use Rattle.iq_outside.proofs.tcp.TcpDoorDoor.TheImpl.Goals as goal

-- where no answer is none, none is one by which the lines end
never-ends : {L E : Type 0} (result : Result (Option L) E) → IfOk result (λ answer. is_none answer ≡ false)
    → IfOk result (λ answer. false ≡ (is_none answer || false))
never-ends (Ok None) h = sym h
never-ends (Ok (Some line)) h = refl
never-ends (Err e) h = tt

pub accept-tells : goal.accept-tells
accept-tells g c =
    record {
      stays_bound = c.ensures.stays_bound;
      failed_rose = c.ensures.failed_rose;
      no_fault = c.ensures.no_fault;
      never_falls = c.ensures.never_falls;
      counts = c.ensures.counts;
      ends = never-ends c.result c.ensures.never_ends;
      no_line = c.ensures.no_line;
      no_end = search rules;
      unused = λ h. absurd h;
      stays_fresh = λ h. h;
      keeps_closed = refl;
    }

pub close-tells : goal.close-tells
close-tells g c =
    record {
      stays_bound = search rules;
      no_fault = search rules;
      no_line = search rules;
      no_end = refl;
      stays_fresh = λ h. h;
      handed_back = inl refl;
    }
