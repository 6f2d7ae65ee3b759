-- The ends of a server.
use Rattle.std.proofs.Common.{ℕ, ◌≡◌, ◌≤◌, ◌++◌, ◌∷◌, List, [], decimal, append_assoc, arith, ap, sym, ◌∙◌, refl, subst, inl, inr}
use Rattle.std.specs.Prelude.{◌≢◌, false, codes, unwrap_or, IfSome, Option, None, Some, Vec}
use Rattle.std.specs.Global.{Global}
use Rattle.std.specs.List.{join_with_byte}
use Rattle.iq_outside.specs.declared.sinks.Sink.{Ghosts as Sinks}
use Rattle.iq_outside.specs.Outside.{Rose}
use Rattle.session_client.specs.declared.plans.Shape.{Shape}
use Rattle.top_run.specs.declared.runs.Status.{Status}
use Rattle.top_run.specs.declared.runs.Status.TheVariants as status
use Rattle.top_run.specs.declared.serves.Served.{Served}
use Rattle.conn_server.specs.declared.ends.LineEnd.{LineEnd}
use Rattle.run_words.specs.declared.words.ServeSpec.{ServeSpec}
use Rattle.top_run.specs.Runs.{Prints, is_read_fault}
use Rattle.top_run.specs.Works.{IsKept}
use Rattle.top_run.specs.declared.serves.Begun.{Begun}
use Rattle.top_run.specs.declared.serves.Begun.TheVariants as cache
use Rattle.top_run.specs.declared.serves.ColdCause.{ColdCause}
use Rattle.top_run.specs.declared.serves.ColdCause.TheVariants as why
use Rattle.top_run.specs.Begins.{BeginsAs}
use Rattle.top_run.specs.Serves.{serve_shape, serve_rolls, begun_line, beginning_in, cold_words, ready_line, ready_text, served_line, serve_text, BeginsBy, IsServedText, IsAttended, HasServed, Course, IsServed, ServeEnded}
use Rattle.door_workers.specs.Attending.{GivesBack, HaveEnds, IsEnough}
use Rattle.run_words.specs.Words.{most_served, path_in}
use Rattle.door_workers.specs.DoorSeen.{DoorSeen}
use Rattle.door_workers.specs.Ends.{AreHandedBack, AreServed}
use Rattle.door_workers.proofs.EndLemmas.{none-handed, none-served}
use Rattle.iq_outside.specs.Outside.{LineRecord}
use Rattle.top_run.proofs.BeginLemmas.{same_begins_as}
use Rattle.top_run.proofs.PrintLemmas.{print_none}

-- ---- what is written

pub ready_is : ready_line ≡ codes "ready\n"
unfolding ready_line
ready_is = refl

-- the line that tells how the cache began
pub new_is : begun_line cache.New ≡ []
unfolding begun_line
new_is = refl

pub cold_is : (cause : ColdCause) → begun_line (cache.Cold cause) ≡ (codes "cold " ++ join_with_byte 32 (cold_words cause)) ++ 10 ∷ []
unfolding begun_line
cold_is why.NoFile = refl
cold_is why.FileFault = refl
cold_is why.NoCache = refl
cold_is why.OtherRows = refl
cold_is why.StoreFault = refl
cold_is why.Memory = refl

pub warm_is : (rows : ℕ) → begun_line (cache.Warm rows) ≡ (codes "warm " ++ decimal rows) ++ 10 ∷ []
unfolding begun_line
warm_is rows = refl

-- the first bytes of the first lines are the first of all that is written
pub ready_cut : (begun : Begun) (front rest : List ℕ) (lines : ℕ) → front ++ rest ≡ ready_text begun → front ++ (rest ++ served_line lines) ≡ serve_text begun lines
ready_cut begun front rest lines parts =
    sym (append_assoc front rest (served_line lines)) ∙ ap (λ (bytes : List ℕ). bytes ++ served_line lines) parts

-- the last line, word by word
pub served_is : (lines : ℕ) → served_line lines ≡ (codes "served " ++ decimal lines) ++ 10 ∷ []
unfolding served_line
served_is lines = refl

-- and the first bytes of the last line behind the first are too
pub served_cut : (begun : Begun) (front rest : List ℕ) (lines : ℕ) → front ++ rest ≡ served_line lines
    → (ready_text begun ++ front) ++ rest ≡ serve_text begun lines
served_cut begun front rest lines parts = append_assoc (ready_text begun) front rest ∙ ap (λ (bytes : List ℕ). ready_text begun ++ bytes) parts

-- there is room for the ends of as many lines as are served
pub room_for : (most : Option ℕ) (count room : ℕ) → count ≡ unwrap_or most 0 → count ≤ room → IfSome most (λ m. m ≤ room)
room_for None count room is fits = tt
room_for (Some most) count room is fits = omega (arith, is, fits)

-- where no line was served none was handed back
none_back : (closed : Option ℕ) → GivesBack 0 closed closed
none_back None = inl refl
none_back (Some count) = inr (ap (λ (n : ℕ). Some n) (omega arith))

few_none : (most : Option ℕ) → IfSome most (λ m. 0 ≤ m)
few_none None = tt
few_none (Some most) = omega arith

ends_none : (most : Option ℕ) → HaveEnds most 0 []
ends_none None = refl
ends_none (Some most) = refl

pub unattended : (spec : ServeSpec) (begun : Begun) (ended : Status) (taken_old taken_new : Option (List ℕ)) (before after : DoorSeen) (printed : List ℕ) (written : ℕ)
    → after.lines ≡ before.lines → after.closed ≡ before.closed → (ended ≡ status.Done → ⊥)
    → (printed ≢ [] → after.bound ≡ Some spec.addr.items) → IsServedText begun ended 0 printed → Prints taken_old taken_new printed written
    → IsAttended spec begun ended taken_old taken_new before after [] written
unattended spec begun ended taken_old taken_new before after printed written same closed unfinished bound text prints = record {
  lines = 0;
  few = few_none (most_served spec.conns);
  have_ends = ends_none (most_served spec.conns);
  counted = same;
  given_back = subst (λ (o : Option ℕ). GivesBack 0 before.closed o) (sym closed) (none_back before.closed);
  all = λ done. absurd (unfinished done);
  printed = printed;
  bound = bound;
  is_text = text;
  prints = prints;
}

-- where memory ran out before the door was bound
unattended_short : (spec : ServeSpec) (begun : Begun) (taken : Option (List ℕ)) (door : DoorSeen) (ends : List LineEnd) → ends ≡ []
    → IsAttended spec begun status.Memory taken taken door door ends 0
unattended_short spec begun taken door ends none =
    subst (λ (l : List LineEnd). IsAttended spec begun status.Memory taken taken door door l 0) (sym none)
    (unattended spec begun status.Memory taken taken door door [] 0 refl refl (λ is. cc) (λ some. absurd (some refl)) (inl (inl (refl, refl))) (print_none taken))

pub unserved_short : {W : Type 0} (sinks : Sinks W) (spec : ServeSpec) (begun : Begun) (sink : W) (door : DoorSeen) (ends : Vec LineEnd Global) (served : Served)
    → served ≡ record { status = status.Memory; ends = ends; written = 0 } → ends.items ≡ [] → HasServed sinks spec begun served sink sink door door
unserved_short sinks spec begun sink door ends served is none =
    subst (λ (s : Served). HasServed sinks spec begun s sink sink door door) (sym is) (record {
      unsaved = refl;
      unfailed = refl;
      attended = unattended_short spec begun (sinks.taken sink) door ends.items none;
      writes = (refl, omega arith);
      doors = (refl, omega arith);
    })

-- ---- which ends there are

-- the end of a server that began, where a call of the keeper failed if it is a store fault
pub served_ended : (ended : Status) (spec : ServeSpec) (course : Course)
    → (ended ≡ status.KeepFault → Rose course.before.keeps_failed course.after.keeps_failed) → IsServed spec ended course → ServeEnded ended spec course
served_ended status.Done spec course rose h = h
served_ended status.Usage spec course rose h = h.attended.is_text
served_ended (status.Script row kind) spec course rose h = h.attended.is_text
served_ended status.ReadFault spec course rose h = h.attended.is_text
served_ended status.WriteFault spec course rose h = h
served_ended status.DoorFault spec course rose h = h
served_ended status.FileFault spec course rose h = h
served_ended status.KeepFault spec course rose h = (rose refl, inr h)
served_ended (status.Spent shard) spec course rose h = h.attended.is_text
served_ended status.Memory spec course rose h = inr h

-- it is none for want of a command, nor at a read
pub no_usage : (begun : Begun) (ended : Status) (lines : ℕ) (printed : List ℕ) → IsServedText begun ended lines printed → ended ≡ status.Usage → ⊥
no_usage begun ended lines printed text is = subst (λ (e : Status). IsServedText begun e lines printed) is text

pub no_read : (begun : Begun) (ended : Status) (lines : ℕ) (printed : List ℕ) → IsServedText begun ended lines printed → is_read_fault ended ≡ false
no_read begun status.Done lines printed text = refl
no_read begun status.Usage lines printed text = refl
no_read begun (status.Script row kind) lines printed text = refl
no_read begun status.ReadFault lines printed text = absurd text
no_read begun status.WriteFault lines printed text = refl
no_read begun status.DoorFault lines printed text = refl
no_read begun status.FileFault lines printed text = refl
no_read begun status.KeepFault lines printed text = refl
no_read begun (status.Spent shard) lines printed text = refl
no_read begun status.Memory lines printed text = refl

-- ---- a server of the same numbers

pub same_shape : (found spec : ServeSpec) → found.members ≡ spec.members → found.shards ≡ spec.shards → serve_shape found ≡ serve_shape spec
same_shape found spec members shards =
    ap (λ (n : ℕ). record { members = n; shards = found.shards; room = 4096; life = 10000 }) members
    ∙ ap (λ (n : ℕ). record { members = spec.members; shards = n; room = 4096; life = 10000 }) shards

same_begins : (found spec : Option (Vec ℕ Global)) (begun : Begun) → path_in found ≡ path_in spec → BeginsBy found begun → BeginsBy spec begun
same_begins None None begun same h = h
same_begins None (Some path) begun same h = absurd cc
same_begins (Some path) None begun same h = absurd cc
same_begins (Some path) (Some other) begun same h = h

-- what two servers' words have in common, which are the same
pub record AreSame (found spec : ServeSpec) : Type 0 where
  pub addr : found.addr.items ≡ spec.addr.items
  pub conns : found.conns ≡ spec.conns
  pub members : found.members ≡ spec.members
  pub shards : found.shards ≡ spec.shards
  pub warm : path_in found.warm ≡ path_in spec.warm

same_served : (found spec : ServeSpec) (ended : Status) (course : Course) → AreSame found spec → IsServed found ended course → IsServed spec ended course
same_served found spec ended course same h =
    let most : most_served found.conns ≡ most_served spec.conns = ap most_served same.conns in
    record {
      opening = h.opening;
      begun = h.begun;
      begins = same_begins found.warm spec.warm h.begun same.warm h.begins;
      begins_as = subst (λ (n : ℕ). BeginsAs spec.warm n (beginning_in course h.opening h.failed) h.begun) same.shards
          (same_begins_as found.warm spec.warm found.shards (beginning_in course h.opening h.failed) h.begun same.warm h.begins_as);
      fail_only_told = h.fail_only_told;
      failed = h.failed;
      kept = subst (λ (shape : Shape). IsKept shape serve_rolls course.held course.before course.after course.left h.opening h.failed)
          (same_shape found spec same.members same.shards) h.kept;
      attended = record {
        lines = h.attended.lines;
        few = subst (λ (o : Option ℕ). IfSome o (λ m. h.attended.lines ≤ m)) most h.attended.few;
        have_ends = subst (λ (o : Option ℕ). HaveEnds o h.attended.lines course.ends) most h.attended.have_ends;
        counted = h.attended.counted;
        given_back = h.attended.given_back;
        all = λ done. subst (λ (o : Option ℕ). IsEnough o h.attended.lines course.door_after.ended) most (h.attended.all done);
        printed = h.attended.printed;
        bound = λ some. h.attended.bound some ∙ ap (λ (text : List ℕ). Some text) same.addr;
        is_text = h.attended.is_text;
        prints = h.attended.prints;
      };
    }

pub same_server : (found spec : ServeSpec) (ended : Status) (course : Course) → AreSame found spec → ServeEnded ended found course → ServeEnded ended spec course
same_server found spec status.Done course same h = same_served found spec status.Done course same h
same_server found spec status.Usage course same h = h
same_server found spec (status.Script row kind) course same h = h
same_server found spec status.ReadFault course same h = h
same_server found spec status.WriteFault course same h = same_served found spec status.WriteFault course same h
same_server found spec status.DoorFault course same h = same_served found spec status.DoorFault course same h
same_server found spec status.FileFault course same h = same_served found spec status.FileFault course same h
same_server found spec status.KeepFault course same (rose, inl h) = (rose, inl h)
same_server found spec status.KeepFault course same (rose, inr h) = (rose, inr (same_served found spec status.KeepFault course same h))
same_server found spec (status.Spent shard) course same h = h
same_server found spec status.Memory course same (inl h) = inl h
same_server found spec status.Memory course same (inr h) = inr (same_served found spec status.Memory course same h)

-- ---- how the lines ended

-- where no line was served none was handed back
pub none_ended : (ends : List LineEnd) (closed after : Option (List LineRecord)) → ends ≡ [] → after ≡ closed → AreHandedBack ends closed after
none_ended ends closed after none same =
    subst (λ (l : List LineEnd). AreHandedBack l closed after) (sym none)
    (subst (λ (o : Option (List LineRecord)). AreHandedBack [] closed o) (sym same) (none-handed closed))

pub none_served : (most : Option ℕ) (ends : List LineEnd) (closed after : Option (List LineRecord)) → ends ≡ [] → after ≡ closed → AreServed most ends closed after
none_served most ends closed after none same =
    subst (λ (l : List LineEnd). AreServed most l closed after) (sym none)
    (subst (λ (o : Option (List LineRecord)). AreServed most [] closed o) (sym same) (none-served most closed))

-- where memory ran out before the door was bound
pub unserved_lines : (most : Option ℕ) (closed : Option (List LineRecord)) (ends : Vec LineEnd Global) (served : Served)
    → served ≡ record { status = status.Memory; ends = ends; written = 0 } → ends.items ≡ [] → AreServed most served.ends.items closed closed
unserved_lines most closed ends served is none =
    subst (λ (s : Served). AreServed most s.ends.items closed closed) (sym is) (none_served most ends.items closed closed none refl)
