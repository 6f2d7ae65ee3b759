-- The ends of a command, by its words.
use Rattle.std.proofs.Common.{ℕ, ◌≡◌, ◌<◌, ◌≤◌, ◌-◌, ◌^◌, inl, inr, List, [], ◌∷◌, length, get_or, arith, ap, refl, sym, ◌∙◌, subst}
use Rattle.std.specs.Prelude.{IsSome, false, Option, Some, None, Result, Ok, Err, IfOk, MatchResult, codes}
use Rattle.std.proofs.lemmas.Fmt.{decimal_injective}
use Rattle.iq_outside.specs.Outside.{Rose, Takes, TakesAtMost}
use Rattle.iq_outside.proofs.OutsideLemmas.{Takes-none}
use Rattle.run_inputs.specs.declared.loads.WorkSpec.{WorkSpec}
use Rattle.run_inputs.specs.Words.{AreWork}
use Rattle.sql_keeper.specs.declared.keepers.Place.{Place}
use Rattle.sql_keeper.specs.declared.keepers.Place.TheVariants.{Fresh, File}
use Rattle.top_run.specs.declared.runs.Status.{Status}
use Rattle.top_run.specs.declared.runs.Status.TheVariants as status
use Rattle.run_words.specs.declared.words.ServeSpec.{ServeSpec}
use Rattle.run_words.specs.declared.words.Words.{Words}
use Rattle.run_words.specs.declared.words.Words.TheVariants as words
use Rattle.run_words.specs.declared.words.WordsFault.{WordsFault}
use Rattle.run_words.specs.declared.words.WordsFault.TheVariants as fault
use Rattle.iq_outside.specs.Outside.{LineRecord}
use Rattle.conn_server.specs.declared.ends.LineEnd.{LineEnd}
use Rattle.door_workers.specs.Ends.{AreHandedBack, AreServed}
use Rattle.run_words.specs.declared.words.Conns.{Conns}
use Rattle.run_words.proofs.WordLemmas.{one_conns}
use Rattle.top_run.specs.declared.runs.Phase.{Phase}
use Rattle.top_run.specs.Commands.{AreEarlier, AreLines, AreNoCommand, AreSaved, IsUnread, IsReading, IsRefused, EndedAs, CommandEnded, IsTextPart, IsTextPrinted, LeavesEarlier, LinesEnded, SavedAs}
use Rattle.top_run.specs.Warms.{HasStoppedFirst, WarmEnded, first_of, nothing_left}
use Rattle.top_run.specs.Runs.{Held, Tells, Left, IsNotStarted, IsUnasked, Ended, most_taken, is_door_fault}
use Rattle.top_run.specs.Serves.{Course, ServeEnded, serve_rolls, serve_shape}
use Rattle.run_words.specs.Words.{AreServe, AreWarm, AreWords, most_served, path_in, warm_path, with_options}
use Rattle.run_words.specs.Reading.{AreReadAs, IsRead}
use Rattle.top_run.specs.Works.{WorkEnded}
use Rattle.std.specs.Prelude.{Vec}
use Rattle.std.specs.Global.{Global}
use Rattle.rows_model.specs.Rows.{Tables}
use Rattle.session_client.specs.declared.plans.Shape.{Shape}
use Rattle.cache_file.specs.Files.{Told, SameElsewhere, SameTexts}
use Rattle.cache_file.specs.Texts.{AreDumps}
use Rattle.top_run.specs.Begins.{Files}
use Rattle.top_run.specs.Saves.{HasText, IsDumpedOf, IsSavedText, SavesAt}
use Rattle.top_run.specs.Works.{hub_terms}
use Rattle.top_run.proofs.SaveLemmas.{is_done, unsaved_at}
use Rattle.top_run.proofs.ServeLemmas.{AreSame, same_server, same_shape}

-- ---- what words that are a command's, word for word, are read as

-- they are read as a command that they are, or memory runs out
abbrev pub Accepts : List (List ℕ) → Result Words WordsFault → Type 0
Accepts spoken read = (command : Words) → AreWords spoken command → MatchResult read (AreWords spoken) (λ why. why ≡ fault.Memory)

-- the name of a command, which comes first
abbrev first_word : Words → List ℕ
first_word (words.Replay at) = codes "replay"
first_word (words.Work at spec) = codes "work"
first_word (words.Warm at spec) = codes "warm"
first_word (words.Serve at spec) = codes "serve"
first_word (words.Page text) = []

stays_first : (place : Place) (warm : Option (List ℕ)) (others : List (List ℕ)) → get_or (with_options place warm others) 0 [] ≡ get_or others 0 []
stays_first place warm [] = refl
stays_first place warm (first ∷ others) = refl

begins_with : (spoken others : List (List ℕ)) (place : Place) (warm : Option (List ℕ)) (first : List ℕ) (values : List (List ℕ))
    → spoken ≡ with_options place warm others → others ≡ first ∷ values → get_or spoken 0 [] ≡ first
begins_with spoken others place warm first values written is =
    ap (λ (ws : List (List ℕ)). get_or ws 0 []) written ∙ stays_first place warm others ∙ ap (λ (ws : List (List ℕ)). get_or ws 0 []) is

is_first : (spoken : List (List ℕ)) (command : Words) → AreWords spoken command → get_or spoken 0 [] ≡ first_word command
is_first spoken (words.Replay at) h = begins_with spoken h.others h.place (warm_path (words.Replay at)) _ _ h.written h.are_command.1
is_first spoken (words.Work at spec) h = begins_with spoken h.others h.place (warm_path (words.Work at spec)) _ _ h.written h.are_command.1.written
is_first spoken (words.Warm at spec) h = begins_with spoken h.others h.place (warm_path (words.Warm at spec)) _ _ h.written h.are_command.1.written
is_first spoken (words.Serve at spec) h = begins_with spoken h.others h.place (warm_path (words.Serve at spec)) _ _ h.written h.are_command.1.written
is_first spoken (words.Page text) h = absurd h.are_command

-- words of one command are of no other
replay_or_work : (spoken : List (List ℕ)) (at place : Place) (spec : WorkSpec) → AreWords spoken (words.Replay at) → AreWords spoken (words.Work place spec) → ⊥
replay_or_work spoken at place spec h k =
    let same : codes "replay" ≡ codes "work" = sym (is_first spoken (words.Replay at) h) ∙ is_first spoken (words.Work place spec) k in
    absurd cc

replay_or_serve : (spoken : List (List ℕ)) (at place : Place) (spec : ServeSpec) → AreWords spoken (words.Replay at) → AreWords spoken (words.Serve place spec) → ⊥
replay_or_serve spoken at place spec h k =
    let same : codes "replay" ≡ codes "serve" = sym (is_first spoken (words.Replay at) h) ∙ is_first spoken (words.Serve place spec) k in
    absurd cc

work_or_serve : (spoken : List (List ℕ)) (at place : Place) (spec : WorkSpec) (other : ServeSpec)
    → AreWords spoken (words.Work at spec) → AreWords spoken (words.Serve place other) → ⊥
work_or_serve spoken at place spec other h k =
    let same : codes "work" ≡ codes "serve" = sym (is_first spoken (words.Work at spec) h) ∙ is_first spoken (words.Serve place other) k in
    absurd cc

replay_or_warm : (spoken : List (List ℕ)) (at place : Place) (spec : WorkSpec) → AreWords spoken (words.Replay at) → AreWords spoken (words.Warm place spec) → ⊥
replay_or_warm spoken at place spec h k =
    let same : codes "replay" ≡ codes "warm" = sym (is_first spoken (words.Replay at) h) ∙ is_first spoken (words.Warm place spec) k in
    absurd cc

work_or_warm : (spoken : List (List ℕ)) (at place : Place) (spec other : WorkSpec)
    → AreWords spoken (words.Work at spec) → AreWords spoken (words.Warm place other) → ⊥
work_or_warm spoken at place spec other h k =
    let same : codes "work" ≡ codes "warm" = sym (is_first spoken (words.Work at spec) h) ∙ is_first spoken (words.Warm place other) k in
    let second : 111 ≡ 97 = ap (λ (word : List ℕ). get_or word 1 0) same in
    absurd (omega (arith, second))

warm_or_serve : (spoken : List (List ℕ)) (at place : Place) (spec : WorkSpec) (other : ServeSpec)
    → AreWords spoken (words.Warm at spec) → AreWords spoken (words.Serve place other) → ⊥
warm_or_serve spoken at place spec other h k =
    let same : codes "warm" ≡ codes "serve" = sym (is_first spoken (words.Warm at spec) h) ∙ is_first spoken (words.Serve place other) k in
    absurd cc

-- words that are as many without those of their options are the same, with the same options
same_options : (place other : Place) (warm later : Option (List ℕ)) (some others : List (List ℕ)) → 1 ≤ length some → length some ≡ length others
    → with_options place warm some ≡ with_options other later others → (place ≡ other) × ((warm ≡ later) × (some ≡ others))
same_options place other warm later [] others one many same = absurd (omega (arith, one))
same_options place other warm later (x ∷ xs) [] one many same = absurd (omega (arith, many))
same_options Fresh Fresh None None (x ∷ xs) (y ∷ ys) one many same = (refl, (refl, same))
same_options (File path) (File other) None None (x ∷ xs) (y ∷ ys) one many same = (cc, (refl, cc))
same_options Fresh Fresh (Some file) (Some later) (x ∷ xs) (y ∷ ys) one many same = (refl, (cc, cc))
same_options (File path) (File other) (Some file) (Some later) (x ∷ xs) (y ∷ ys) one many same = (cc, (cc, cc))
same_options (File path) Fresh None (Some later) (x ∷ xs) (y ∷ ys) one many same =
    let options : codes "--db" ≡ codes "--warm" = ap (λ (ws : List (List ℕ)). get_or ws 1 []) same in
    let letter : 100 ≡ 119 = ap (λ (word : List ℕ). get_or word 2 0) options in
    absurd (omega (arith, letter))
same_options Fresh (File other) (Some file) None (x ∷ xs) (y ∷ ys) one many same =
    let options : codes "--warm" ≡ codes "--db" = ap (λ (ws : List (List ℕ)). get_or ws 1 []) same in
    let letter : 119 ≡ 100 = ap (λ (word : List ℕ). get_or word 2 0) options in
    absurd (omega (arith, letter))
same_options Fresh Fresh None (Some later) (x ∷ xs) (y ∷ ys) one many same =
    let lengths : length (x ∷ xs) ≡ length (y ∷ codes "--warm" ∷ later ∷ ys) = ap length same in
    absurd (omega (arith, many, lengths))
same_options Fresh Fresh (Some file) None (x ∷ xs) (y ∷ ys) one many same =
    let lengths : length (x ∷ codes "--warm" ∷ file ∷ xs) ≡ length (y ∷ ys) = ap length same in
    absurd (omega (arith, many, lengths))
same_options Fresh (File other) None None (x ∷ xs) (y ∷ ys) one many same =
    let lengths : length (x ∷ xs) ≡ length (y ∷ codes "--db" ∷ other ∷ ys) = ap length same in
    absurd (omega (arith, many, lengths))
same_options Fresh (File other) None (Some later) (x ∷ xs) (y ∷ ys) one many same =
    let lengths : length (x ∷ xs) ≡ length (y ∷ codes "--db" ∷ other ∷ codes "--warm" ∷ later ∷ ys) = ap length same in
    absurd (omega (arith, many, lengths))
same_options Fresh (File other) (Some file) (Some later) (x ∷ xs) (y ∷ ys) one many same =
    let lengths : length (x ∷ codes "--warm" ∷ file ∷ xs) ≡ length (y ∷ codes "--db" ∷ other ∷ codes "--warm" ∷ later ∷ ys) = ap length same in
    absurd (omega (arith, many, lengths))
same_options (File path) Fresh None None (x ∷ xs) (y ∷ ys) one many same =
    let lengths : length (x ∷ codes "--db" ∷ path ∷ xs) ≡ length (y ∷ ys) = ap length same in
    absurd (omega (arith, many, lengths))
same_options (File path) Fresh (Some file) None (x ∷ xs) (y ∷ ys) one many same =
    let lengths : length (x ∷ codes "--db" ∷ path ∷ codes "--warm" ∷ file ∷ xs) ≡ length (y ∷ ys) = ap length same in
    absurd (omega (arith, many, lengths))
same_options (File path) Fresh (Some file) (Some later) (x ∷ xs) (y ∷ ys) one many same =
    let lengths : length (x ∷ codes "--db" ∷ path ∷ codes "--warm" ∷ file ∷ xs) ≡ length (y ∷ codes "--warm" ∷ later ∷ ys) = ap length same in
    absurd (omega (arith, many, lengths))
same_options (File path) (File other) None (Some later) (x ∷ xs) (y ∷ ys) one many same =
    let lengths : length (x ∷ codes "--db" ∷ path ∷ xs) ≡ length (y ∷ codes "--db" ∷ other ∷ codes "--warm" ∷ later ∷ ys) = ap length same in
    absurd (omega (arith, many, lengths))
same_options (File path) (File other) (Some file) None (x ∷ xs) (y ∷ ys) one many same =
    let lengths : length (x ∷ codes "--db" ∷ path ∷ codes "--warm" ∷ file ∷ xs) ≡ length (y ∷ codes "--db" ∷ other ∷ ys) = ap length same in
    absurd (omega (arith, many, lengths))

alike : (spoken : List (List ℕ)) (found command : Words) (h : AreWords spoken found) (k : AreWords spoken command)
    → 1 ≤ length h.others → length h.others ≡ length k.others → (h.place ≡ k.place) × (h.others ≡ k.others)
alike spoken found command h k one many =
    let same = same_options h.place k.place (warm_path found) (warm_path command) h.others k.others one many (sym h.written ∙ k.written) in
    (same.0, same.1.1)

-- and so is the path of the file of a cache
same_path : (spoken : List (List ℕ)) (found command : Words) (h : AreWords spoken found) (k : AreWords spoken command)
    → 1 ≤ length h.others → length h.others ≡ length k.others → warm_path found ≡ warm_path command
same_path spoken found command h k one many =
    (same_options h.place k.place (warm_path found) (warm_path command) h.others k.others one many (sym h.written ∙ k.written)).1.0

-- they are those of one load at most
same_load : (spoken : List (List ℕ)) (spec other : WorkSpec) → AreWork spoken spec → AreWork spoken other → spec ≡ other
same_load spoken spec other h k =
    let low = h.fits in
    let high = k.fits in
    let same = sym h.written ∙ k.written in
    let members : spec.members ≡ other.members = decimal_injective spec.members other.members (omega arith) (omega arith) cc in
    let sessions : spec.sessions ≡ other.sessions = decimal_injective spec.sessions other.sessions (omega arith) (omega arith) cc in
    let workers : spec.workers ≡ other.workers = decimal_injective spec.workers other.workers (omega arith) (omega arith) cc in
    let shards : spec.shards ≡ other.shards = decimal_injective spec.shards other.shards (omega arith) (omega arith) cc in
    let seed : spec.seed ≡ other.seed = decimal_injective spec.seed other.seed h.seed_below k.seed_below cc in
    let with : ℕ → ℕ → ℕ → ℕ → ℕ → WorkSpec = λ m n w x d. record { members = m; sessions = n; workers = w; shards = x; seed = d } in
    let e : with spec.members spec.sessions spec.workers spec.shards spec.seed ≡ with other.members other.sessions other.workers other.shards other.seed = cc in
    e

-- so are those of one and then the next
six_warm : (others : List (List ℕ)) (spec : WorkSpec) → AreWarm others spec → length others ≡ 6
six_warm others spec h =
    let all = ap (λ (ws : List (List ℕ)). length ws) h.written in
    let behind = ap (λ (ws : List (List ℕ)). length ws) h.are_load.written in
    omega (arith, all, behind)

same_warm : (spoken : List (List ℕ)) (spec other : WorkSpec) → AreWarm spoken spec → AreWarm spoken other → spec ≡ other
same_warm spoken spec other h k =
    let written = sym h.written ∙ k.written in
    let same : h.numbers ≡ k.numbers = cc in
    same_load (codes "work" ∷ k.numbers) spec other (subst (λ (ws : List (List ℕ)). AreWork (codes "work" ∷ ws) spec) same h.are_load) k.are_load

-- and of one server's numbers
same_conns : (spoken : List (List ℕ)) (spec other : ServeSpec) → AreServe spoken spec → AreServe spoken other → spec.conns ≡ other.conns
same_conns spoken spec other h k =
    let same = sym h.written ∙ k.written in
    one_conns spec.conns other.conns h.fits.conns k.fits.conns cc

same_addr : (spoken : List (List ℕ)) (spec other : ServeSpec) → AreServe spoken spec → AreServe spoken other → spec.addr.items ≡ other.addr.items
same_addr spoken spec other h k = let same = sym h.written ∙ k.written in cc

same_members : (spoken : List (List ℕ)) (spec other : ServeSpec) → AreServe spoken spec → AreServe spoken other → spec.members ≡ other.members
same_members spoken spec other h k =
    let low = h.fits.few_members in
    let high = k.fits.few_members in
    let same = sym h.written ∙ k.written in
    decimal_injective spec.members other.members (omega arith) (omega arith) cc

same_shards : (spoken : List (List ℕ)) (spec other : ServeSpec) → AreServe spoken spec → AreServe spoken other → spec.shards ≡ other.shards
same_shards spoken spec other h k =
    let low = h.fits.few_shards in
    let high = k.fits.few_shards in
    let same = sym h.written ∙ k.written in
    decimal_injective spec.shards other.shards (omega arith) (omega arith) cc

are_same : (spoken : List (List ℕ)) (spec other : ServeSpec) → AreServe spoken spec → AreServe spoken other → path_in spec.warm ≡ path_in other.warm → AreSame spec other
are_same spoken spec other h k warm = record {
  addr = same_addr spoken spec other h k;
  conns = same_conns spoken spec other h k;
  members = same_members spoken spec other h k;
  shards = same_shards spoken spec other h k;
  warm = warm;
}

-- two servers of the same words are the same
served_alike : (spoken : List (List ℕ)) (at place : Place) (spec other : ServeSpec) → AreWords spoken (words.Serve at spec) → AreWords spoken (words.Serve place other)
    → AreSame spec other
served_alike spoken at place spec other h k =
    let six : length h.others ≡ 6 = ap length h.are_command.1.written in
    let six' : length k.others ≡ 6 = ap length k.are_command.1.written in
    let same = alike spoken (words.Serve at spec) (words.Serve place other) h k (omega (arith, six)) (six ∙ sym six') in
    are_same k.others spec other (subst (λ (ws : List (List ℕ)). AreServe ws spec) same.1 h.are_command.1) k.are_command.1
    (same_path spoken (words.Serve at spec) (words.Serve place other) h k (omega (arith, six)) (six ∙ sym six'))

-- ---- where nothing was done

unasked_of : (course : Course) → course.after ≡ course.before → IsUnasked course.before course.after
unasked_of course same = record { rows = ap (λ (t : Tells). t.rows) same; count = ap (λ (t : Tells). t.keeps_failed) same }

unread_of : (course : Course) → course.after ≡ course.before → IsUnread course.before course.after
unread_of course same = record { left = ap (λ (t : Tells). t.left) same; count = ap (λ (t : Tells). t.reads_failed) same }

took_none : (course : Course) → course.after ≡ course.before → TakesAtMost most_taken course.before.left course.after.left
took_none course same = (
  [],
  subst (λ (t : Tells). Takes course.before.left t.left []) (sym same) (Takes-none course.before.left),
  omega arith,
)

-- nothing is left then, of no load
unwarmed : (spec : WorkSpec) (course : Course) → IsRefused course → HasStoppedFirst status.Memory spec course
unwarmed spec course refused =
    let none : first_of course.earlier ≡ nothing_left = ap first_of refused.none_earlier in
    let left : course.left ≡ nothing_left = left_none course.left refused.nothing.no_opening refused.nothing.no_log refused.nothing.no_histories in
    record {
      stopped = inl (
        unasked_of course refused.same,
        subst (λ (left : Left). IsNotStarted course.before course.after left course.written) (left ∙ sym none) refused.nothing,
      );
      few = subst (λ (earlier : List Left). length earlier ≤ 1) (sym refused.none_earlier) (omega arith);
      none_left = left;
    }
  where
    left_none : (left : Left) → left.opening ≡ None → left.log ≡ [] → left.histories ≡ [] → left ≡ nothing_left
    left_none left opening log histories = λ i. record { opening = opening i; log = log i; histories = histories i }

-- ---- how a command ends, by what its words were read as

-- as what they were read as, which they are too
ended_alike : (spoken : List (List ℕ)) (found command : Words) → AreWords spoken found → AreWords spoken command
    → (ended : Status) (courses : Place → Course) → EndedAs (Ok found) ended courses → EndedAs (Ok command) ended courses
ended_alike spoken (words.Replay at) (words.Replay place) h k ended courses e =
    let one : length h.others ≡ 1 = ap length h.are_command.1 in
    let other : length k.others ≡ 1 = ap length k.are_command.1 in
    let same = alike spoken (words.Replay at) (words.Replay place) h k (omega (arith, one)) (one ∙ sym other) in
    subst (λ (p : Place). EndedAs (Ok (words.Replay p)) ended courses) (h.are_command.0 ∙ same.0 ∙ sym k.are_command.0) e
ended_alike spoken (words.Work at spec) (words.Work place other) h k ended courses e =
    let six : length h.others ≡ 6 = ap length h.are_command.1.written in
    let six' : length k.others ≡ 6 = ap length k.are_command.1.written in
    let same = alike spoken (words.Work at spec) (words.Work place other) h k (omega (arith, six)) (six ∙ sym six') in
    let load : spec ≡ other = same_load k.others spec other (subst (λ (ws : List (List ℕ)). AreWork ws spec) same.1 h.are_command.1) k.are_command.1 in
    subst (λ (s : WorkSpec). EndedAs (Ok (words.Work place s)) ended courses) load
    (subst (λ (p : Place). EndedAs (Ok (words.Work p spec)) ended courses) (h.are_command.0 ∙ same.0 ∙ sym k.are_command.0) e)
ended_alike spoken (words.Warm at spec) (words.Warm place other) h k ended courses e =
    let six = six_warm h.others spec h.are_command.1 in
    let six' = six_warm k.others other k.are_command.1 in
    let same = alike spoken (words.Warm at spec) (words.Warm place other) h k (omega (arith, six)) (six ∙ sym six') in
    let load : spec ≡ other = same_warm k.others spec other (subst (λ (ws : List (List ℕ)). AreWarm ws spec) same.1 h.are_command.1) k.are_command.1 in
    subst (λ (s : WorkSpec). EndedAs (Ok (words.Warm place s)) ended courses) load
    (subst (λ (p : Place). EndedAs (Ok (words.Warm p spec)) ended courses) (h.are_command.0 ∙ same.0 ∙ sym k.are_command.0) e)
ended_alike spoken (words.Serve at spec) (words.Serve place other) h k ended courses e =
    let six : length h.others ≡ 6 = ap length h.are_command.1.written in
    let six' : length k.others ≡ 6 = ap length k.are_command.1.written in
    let same = alike spoken (words.Serve at spec) (words.Serve place other) h k (omega (arith, six)) (six ∙ sym six') in
    let there = subst (λ (p : Place). EndedAs (Ok (words.Serve p spec)) ended courses) (h.are_command.0 ∙ same.0 ∙ sym k.are_command.0) e in (
      there.0,
      same_server spec other ended (courses place) (served_alike spoken at place spec other h k) there.1,
    )
ended_alike spoken (words.Replay at) (words.Work place spec) h k ended courses e = absurd (replay_or_work spoken at place spec h k)
ended_alike spoken (words.Replay at) (words.Serve place spec) h k ended courses e = absurd (replay_or_serve spoken at place spec h k)
ended_alike spoken (words.Work at spec) (words.Replay place) h k ended courses e = absurd (replay_or_work spoken place at spec k h)
ended_alike spoken (words.Work at spec) (words.Serve place other) h k ended courses e = absurd (work_or_serve spoken at place spec other h k)
ended_alike spoken (words.Serve at spec) (words.Replay place) h k ended courses e = absurd (replay_or_serve spoken place at spec k h)
ended_alike spoken (words.Serve at spec) (words.Work place other) h k ended courses e = absurd (work_or_serve spoken place at other spec k h)
ended_alike spoken (words.Replay at) (words.Warm place spec) h k ended courses e = absurd (replay_or_warm spoken at place spec h k)
ended_alike spoken (words.Work at spec) (words.Warm place other) h k ended courses e = absurd (work_or_warm spoken at place spec other h k)
ended_alike spoken (words.Warm at spec) (words.Replay place) h k ended courses e = absurd (replay_or_warm spoken place at spec k h)
ended_alike spoken (words.Warm at spec) (words.Work place other) h k ended courses e = absurd (work_or_warm spoken place at other spec k h)
ended_alike spoken (words.Warm at spec) (words.Serve place other) h k ended courses e = absurd (warm_or_serve spoken at place spec other h k)
ended_alike spoken (words.Serve at spec) (words.Warm place other) h k ended courses e = absurd (warm_or_serve spoken place at other spec k h)
ended_alike spoken (words.Page text) command h k ended courses e = absurd h.are_command
ended_alike spoken found (words.Page text) h k ended courses e = absurd k.are_command

-- or where memory ran out for reading them
ended_unread : (spoken : List (List ℕ)) (command : Words) → AreWords spoken command
    → (ended : Status) (courses : Place → Course) → EndedAs (Err fault.Memory) ended courses → EndedAs (Ok command) ended courses
ended_unread spoken (words.Replay at) k ended courses e =
    let course = courses at in
    let refused : IsRefused course = e.1 at in (
      subst (λ (s : Status). Ended s course.held course.before course.after course.left course.written) (sym e.0)
          (inl (took_none course refused.same, unasked_of course refused.same, refused.nothing)),
      refused.unserved,
    )
ended_unread spoken (words.Work at spec) k ended courses e =
    let course = courses at in
    let refused : IsRefused course = e.1 at in (
      unread_of course refused.same,
      subst (λ (s : Status). WorkEnded s spec course.held course.before course.after course.left course.written) (sym e.0)
          (inl (unasked_of course refused.same, refused.nothing)),
      refused.unserved,
    )
ended_unread spoken (words.Warm at spec) k ended courses e =
    let course = courses at in
    let refused : IsRefused course = e.1 at in (
      unread_of course refused.same,
      subst (λ (s : Status). WarmEnded s spec course) (sym e.0) (inl (unwarmed spec course refused)),
      refused.unserved,
    )
ended_unread spoken (words.Serve at spec) k ended courses e =
    let course = courses at in
    let refused : IsRefused course = e.1 at in (
      unread_of course refused.same,
      subst (λ (s : Status). ServeEnded s spec course) (sym e.0) (inl (unasked_of course refused.same, refused.nothing, refused.unserved)),
    )
ended_unread spoken (words.Page text) k ended courses e = absurd k.are_command

worded_of : (spoken : List (List ℕ)) (read : Result Words WordsFault) (ended : Status) (courses : Place → Course) → Accepts spoken read
    → EndedAs read ended courses → (command : Words) → AreWords spoken command → EndedAs (Ok command) ended courses
worded_of spoken (Ok found) ended courses accepts h command are = ended_alike spoken found command (accepts command are) are ended courses h
worded_of spoken (Err fault.Usage) ended courses accepts h command are =
    let none : fault.Usage ≡ fault.Memory = accepts command are in absurd cc
worded_of spoken (Err fault.Memory) ended courses accepts h command are = ended_unread spoken command are ended courses h

command_ended : (spoken : List (List ℕ)) (read : Result Words WordsFault) (ended : Status) (courses : Place → Course)
    → Accepts spoken read → IsReading spoken read → EndedAs read ended courses → CommandEnded spoken ended courses
command_ended spoken read ended courses accepts reading h = record {
  worded = worded_of spoken read ended courses accepts h;
  read = read;
  is_reading = reading;
  ended_as = h;
}

-- what the words were read as, by what is promised of their reading
reading_of : (spoken : List (List ℕ)) (read : Result Words WordsFault) → Accepts spoken read → IfOk read (IsRead spoken)
    → (read ≡ Err fault.Usage → (command : Words) → AreReadAs spoken command → ⊥) → IsReading spoken read
reading_of spoken (Ok command) accepts is usage = is
reading_of spoken (Err fault.Usage) accepts is usage = record {
  no_words = λ command are. let none : fault.Usage ≡ fault.Memory = accepts command are in absurd cc;
  no_reading = usage refl;
}
reading_of spoken (Err fault.Memory) accepts is usage = tt

pub command_ok : (spoken : List (List ℕ)) (read : Result Words WordsFault) (ended : Status) (courses : Place → Course)
    → Accepts spoken read → IfOk read (IsRead spoken) → (read ≡ Err fault.Usage → (command : Words) → AreReadAs spoken command → ⊥)
    → (found command : Words) → read ≡ Ok found → found ≡ command → EndedAs (Ok command) ended courses → CommandEnded spoken ended courses
command_ok spoken read ended courses accepts is usage found command first then h =
    let as_read : read ≡ Ok command = cc in
    command_ended spoken read ended courses accepts (reading_of spoken read accepts is usage)
    (subst (λ (r : Result Words WordsFault). EndedAs r ended courses) (sym as_read) h)

pub command_err : (spoken : List (List ℕ)) (read : Result Words WordsFault) (ended : Status) (courses : Place → Course)
    → Accepts spoken read → IfOk read (IsRead spoken) → (read ≡ Err fault.Usage → (command : Words) → AreReadAs spoken command → ⊥)
    → (found why : WordsFault) → read ≡ Err found → found ≡ why → EndedAs (Err why) ended courses → CommandEnded spoken ended courses
command_err spoken read ended courses accepts is usage found why first then h =
    let as_read : read ≡ Err why = cc in
    command_ended spoken read ended courses accepts (reading_of spoken read accepts is usage)
    (subst (λ (r : Result Words WordsFault). EndedAs r ended courses) (sym as_read) h)

-- words that are read as a load's, or a server's, are not those of a replay
pub load_no_replay : (spoken : List (List ℕ)) (read : Result Words WordsFault) (found : Words) (at : Place) (spec : WorkSpec)
    → Accepts spoken read → read ≡ Ok found → found ≡ words.Work at spec → (place : Place) → AreWords spoken (words.Replay place) → ⊥
load_no_replay spoken read found at spec accepts first then place are =
    let as_read : read ≡ Ok (words.Work at spec) = cc in
    let work : AreWords spoken (words.Work at spec) = subst (λ (r : Result Words WordsFault). MatchResult r (AreWords spoken) (λ why. why ≡ fault.Memory))
    as_read (accepts (words.Replay place) are) in
    replay_or_work spoken place at spec are work

pub server_no_replay : (spoken : List (List ℕ)) (read : Result Words WordsFault) (found : Words) (at : Place) (spec : ServeSpec)
    → Accepts spoken read → read ≡ Ok found → found ≡ words.Serve at spec → (place : Place) → AreWords spoken (words.Replay place) → ⊥
server_no_replay spoken read found at spec accepts first then place are =
    let as_read : read ≡ Ok (words.Serve at spec) = cc in
    let serve : AreWords spoken (words.Serve at spec) = subst (λ (r : Result Words WordsFault). MatchResult r (AreWords spoken) (λ why. why ≡ fault.Memory))
    as_read (accepts (words.Replay place) are) in
    replay_or_serve spoken place at spec are serve

pub warm_no_replay : (spoken : List (List ℕ)) (read : Result Words WordsFault) (found : Words) (at : Place) (spec : WorkSpec)
    → Accepts spoken read → read ≡ Ok found → found ≡ words.Warm at spec → (place : Place) → AreWords spoken (words.Replay place) → ⊥
warm_no_replay spoken read found at spec accepts first then place are =
    let as_read : read ≡ Ok (words.Warm at spec) = cc in
    let warm : AreWords spoken (words.Warm at spec) = subst (λ (r : Result Words WordsFault). MatchResult r (AreWords spoken) (λ why. why ≡ fault.Memory))
    as_read (accepts (words.Replay place) are) in
    replay_or_warm spoken place at spec are warm

-- words that are refused are no command
pub no_command : (spoken : List (List ℕ)) (read : Result Words WordsFault) → Accepts spoken read
    → (read ≡ Err fault.Usage → (command : Words) → AreReadAs spoken command → ⊥)
    → (found : WordsFault) → read ≡ Err found → found ≡ fault.Usage → AreNoCommand spoken
no_command spoken read accepts usage found first then =
    let as_read : read ≡ Err fault.Usage = cc in
    record {
      no_words = λ command are.
          let none : fault.Usage ≡ fault.Memory = subst (λ (r : Result Words WordsFault). MatchResult r (AreWords spoken) (λ why. why ≡ fault.Memory))
          as_read (accepts command are) in
          absurd cc;
      no_reading = usage as_read;
    }

-- where the keeper's count of faults stands below the end of its type, no call of it failed
not_rose : (before after : ℕ) → Rose before after → after ≡ before → before < 2 ^ 64 - 1 → ⊥
not_rose before after (inl up) same below = omega (arith, up, same)
not_rose before after (inr end) same below = omega (arith, end, same, below)

pub load_not_failed : (ended : Status) (spec : WorkSpec) (held : Held) (before after : Tells) (left : Left) (written : ℕ)
    → WorkEnded ended spec held before after left written
    → after.keeps_failed ≡ before.keeps_failed → before.keeps_failed < 2 ^ 64 - 1 → ended ≡ status.KeepFault → ⊥
load_not_failed ended spec held before after left written h same below is =
    let failed = subst (λ (e : Status). WorkEnded e spec held before after left written) is h in
    not_rose before.keeps_failed after.keeps_failed failed.0 same below

pub load_no_door : (ended : Status) (spec : WorkSpec) (held : Held) (before after : Tells) (left : Left) (written : ℕ)
    → WorkEnded ended spec held before after left written → is_door_fault ended ≡ false
load_no_door status.Done spec held before after left written h = refl
load_no_door status.Usage spec held before after left written h = refl
load_no_door (status.Script row kind) spec held before after left written h = refl
load_no_door status.ReadFault spec held before after left written h = refl
load_no_door status.WriteFault spec held before after left written h = refl
load_no_door status.DoorFault spec held before after left written h = absurd h
load_no_door status.FileFault spec held before after left written h = absurd h
load_no_door status.KeepFault spec held before after left written h = refl
load_no_door (status.Spent shard) spec held before after left written h = refl
load_no_door status.Memory spec held before after left written h = refl

pub warm_not_failed : (ended : Status) (spec : WorkSpec) (course : Course) → WarmEnded ended spec course
    → course.after.keeps_failed ≡ course.before.keeps_failed → course.before.keeps_failed < 2 ^ 64 - 1 → ended ≡ status.KeepFault → ⊥
warm_not_failed ended spec course h same below is = by (subst (λ (e : Status). WarmEnded e spec course) is h)
  where
    by : WarmEnded status.KeepFault spec course → ⊥
    by (inl first) = not_rose course.before.keeps_failed course.after.keeps_failed first.stopped.0 same below
    by (inr (inl between)) = absurd between.is_part
    by (inr (inr second)) = not_rose course.before.keeps_failed course.after.keeps_failed second.0 same below

no_door_of_two : (spec : WorkSpec) (course : Course) → WarmEnded status.DoorFault spec course → ⊥
no_door_of_two spec course (inl first) = absurd first.stopped
no_door_of_two spec course (inr (inl between)) = absurd between.is_part
no_door_of_two spec course (inr (inr second)) = absurd second

pub warm_no_door : (ended : Status) (spec : WorkSpec) (course : Course) → WarmEnded ended spec course → is_door_fault ended ≡ false
warm_no_door status.Done spec course h = refl
warm_no_door status.Usage spec course h = refl
warm_no_door (status.Script row kind) spec course h = refl
warm_no_door status.ReadFault spec course h = refl
warm_no_door status.WriteFault spec course h = refl
warm_no_door status.DoorFault spec course h = absurd (no_door_of_two spec course h)
warm_no_door status.FileFault spec course h = refl
warm_no_door status.KeepFault spec course h = refl
warm_no_door (status.Spent shard) spec course h = refl
warm_no_door status.Memory spec course h = refl

pub server_not_failed : (ended : Status) (spec : ServeSpec) (course : Course) → ServeEnded ended spec course
    → course.after.keeps_failed ≡ course.before.keeps_failed → course.before.keeps_failed < 2 ^ 64 - 1 → ended ≡ status.KeepFault → ⊥
server_not_failed ended spec course h same below is =
    let failed = subst (λ (e : Status). ServeEnded e spec course) is h in
    not_rose course.before.keeps_failed course.after.keeps_failed failed.0 same below

-- ---- no command but a server ends at its cache's file

pub replay_no_file : (ended : Status) (held : Held) (before after : Tells) (left : Left) (written : ℕ)
    → Ended ended held before after left written → ended ≡ status.FileFault → ⊥
replay_no_file ended held before after left written h is = subst (λ (e : Status). Ended e held before after left written) is h

pub load_no_file : (ended : Status) (spec : WorkSpec) (held : Held) (before after : Tells) (left : Left) (written : ℕ)
    → WorkEnded ended spec held before after left written → ended ≡ status.FileFault → ⊥
load_no_file ended spec held before after left written h is = subst (λ (e : Status). WorkEnded e spec held before after left written) is h

no_file_of_two : (spec : WorkSpec) (course : Course) → WarmEnded status.FileFault spec course → ⊥
no_file_of_two spec course (inl first) = absurd first.stopped
no_file_of_two spec course (inr (inl between)) = absurd between.is_part
no_file_of_two spec course (inr (inr second)) = absurd second

pub warm_no_file : (ended : Status) (spec : WorkSpec) (course : Course) → WarmEnded ended spec course → ended ≡ status.FileFault → ⊥
warm_no_file ended spec course h is = no_file_of_two spec course (subst (λ (e : Status). WarmEnded e spec course) is h)

pub text_no_file : (text : List ℕ) (ended : Status) (before after : Tells) (left : Left) (written : ℕ)
    → IsTextPrinted text ended before after left written → ended ≡ status.FileFault → ⊥
text_no_file text ended before after left written h is = subst (λ (e : Status). IsTextPart e text h.printed) is h.is_part

-- ---- how the lines of a command ended, by what its words were read as

all_served : (most : Option ℕ) (ends : List LineEnd) (before after : Option (List LineRecord)) → AreHandedBack ends before after → AreServed most ends before after
all_served (Some count) ends before after are = are
all_served None ends before after are = (ends, are)

-- where nothing tells that a server was asked for
lines_of : (command : Words) (ends : List LineEnd) (before after : Option (List LineRecord)) → AreHandedBack ends before after
    → LinesEnded (Ok command) ends before after
lines_of (words.Replay at) ends before after are = are
lines_of (words.Work at spec) ends before after are = are
lines_of (words.Warm at spec) ends before after are = are
lines_of (words.Serve at spec) ends before after are = all_served (most_served spec.conns) ends before after are
lines_of (words.Page text) ends before after are = are

lines_alike : (spoken : List (List ℕ)) (found command : Words) → AreWords spoken found → AreWords spoken command
    → (ends : List LineEnd) (before after : Option (List LineRecord)) → LinesEnded (Ok found) ends before after → LinesEnded (Ok command) ends before after
lines_alike spoken (words.Replay at) command h k ends before after are = lines_of command ends before after are
lines_alike spoken (words.Work at spec) command h k ends before after are = lines_of command ends before after are
lines_alike spoken (words.Warm at spec) command h k ends before after are = lines_of command ends before after are
lines_alike spoken (words.Serve at spec) (words.Serve place other) h k ends before after are =
    let six : length h.others ≡ 6 = ap length h.are_command.1.written in
    let six' : length k.others ≡ 6 = ap length k.are_command.1.written in
    let same = alike spoken (words.Serve at spec) (words.Serve place other) h k (omega (arith, six)) (six ∙ sym six') in
    let too : AreServe k.others spec = subst (λ (ws : List (List ℕ)). AreServe ws spec) same.1 h.are_command.1 in
    subst (λ (conns : Conns). AreServed (most_served conns) ends before after) (same_conns k.others spec other too k.are_command.1) are
lines_alike spoken (words.Serve at spec) (words.Replay place) h k ends before after are = absurd (replay_or_serve spoken place at spec k h)
lines_alike spoken (words.Serve at spec) (words.Work place other) h k ends before after are = absurd (work_or_serve spoken place at other spec k h)
lines_alike spoken (words.Serve at spec) (words.Warm place other) h k ends before after are = absurd (warm_or_serve spoken place at other spec k h)
lines_alike spoken (words.Serve at spec) (words.Page text) h k ends before after are = absurd k.are_command
lines_alike spoken (words.Page text) command h k ends before after are = absurd h.are_command

worded_lines : (spoken : List (List ℕ)) (read : Result Words WordsFault) (ends : List LineEnd) (before after : Option (List LineRecord))
    → Accepts spoken read → LinesEnded read ends before after → (command : Words) → AreWords spoken command → LinesEnded (Ok command) ends before after
worded_lines spoken (Ok found) ends before after accepts are command is = lines_alike spoken found command (accepts command is) is ends before after are
worded_lines spoken (Err why) ends before after accepts are command is = lines_of command ends before after are

are_lines : (spoken : List (List ℕ)) (read : Result Words WordsFault) (ends : List LineEnd) (before after : Option (List LineRecord))
    → Accepts spoken read → IsReading spoken read → LinesEnded read ends before after → AreLines spoken ends before after
are_lines spoken read ends before after accepts reading are = record {
  worded = worded_lines spoken read ends before after accepts are;
  read = read;
  is_reading = reading;
  ended = are;
}

pub lines_ok : (spoken : List (List ℕ)) (read : Result Words WordsFault) (ends : List LineEnd) (before after : Option (List LineRecord))
    → Accepts spoken read → IfOk read (IsRead spoken) → (read ≡ Err fault.Usage → (command : Words) → AreReadAs spoken command → ⊥)
    → (found command : Words) → read ≡ Ok found → found ≡ command → LinesEnded (Ok command) ends before after → AreLines spoken ends before after
lines_ok spoken read ends before after accepts is usage found command first then are =
    let as_read : read ≡ Ok command = cc in
    are_lines spoken read ends before after accepts (reading_of spoken read accepts is usage)
    (subst (λ (r : Result Words WordsFault). LinesEnded r ends before after) (sym as_read) are)

pub lines_err : (spoken : List (List ℕ)) (read : Result Words WordsFault) (ends : List LineEnd) (before after : Option (List LineRecord))
    → Accepts spoken read → IfOk read (IsRead spoken) → (read ≡ Err fault.Usage → (command : Words) → AreReadAs spoken command → ⊥)
    → (why : WordsFault) → read ≡ Err why → AreHandedBack ends before after → AreLines spoken ends before after
lines_err spoken read ends before after accepts is usage why first are =
    are_lines spoken read ends before after accepts (reading_of spoken read accepts is usage)
    (subst (λ (r : Result Words WordsFault). LinesEnded r ends before after) (sym first) are)

-- ---- what loads left that ended before, by what the words were read as

-- where there is none
none_left_of : (command : Words) (earlier : List Phase) → earlier ≡ [] → LeavesEarlier (Ok command) earlier
none_left_of (words.Replay at) earlier none = none
none_left_of (words.Work at spec) earlier none = none
none_left_of (words.Warm at spec) earlier none = tt
none_left_of (words.Serve at spec) earlier none = none
none_left_of (words.Page text) earlier none = none

earlier_alike : (spoken : List (List ℕ)) (found command : Words) → AreWords spoken found → AreWords spoken command → (earlier : List Phase)
    → LeavesEarlier (Ok found) earlier → LeavesEarlier (Ok command) earlier
earlier_alike spoken (words.Replay at) command h k earlier none = none_left_of command earlier none
earlier_alike spoken (words.Work at spec) command h k earlier none = none_left_of command earlier none
earlier_alike spoken (words.Serve at spec) command h k earlier none = none_left_of command earlier none
earlier_alike spoken (words.Page text) command h k earlier none = none_left_of command earlier none
earlier_alike spoken (words.Warm at spec) (words.Warm place other) h k earlier any = tt
earlier_alike spoken (words.Warm at spec) (words.Replay place) h k earlier any = absurd (replay_or_warm spoken place at spec k h)
earlier_alike spoken (words.Warm at spec) (words.Work place other) h k earlier any = absurd (work_or_warm spoken place at other spec k h)
earlier_alike spoken (words.Warm at spec) (words.Serve place other) h k earlier any = absurd (warm_or_serve spoken at place spec other h k)
earlier_alike spoken (words.Warm at spec) (words.Page text) h k earlier any = absurd k.are_command

worded_earlier : (spoken : List (List ℕ)) (read : Result Words WordsFault) (earlier : List Phase) → Accepts spoken read → LeavesEarlier read earlier
    → (command : Words) → AreWords spoken command → LeavesEarlier (Ok command) earlier
worded_earlier spoken (Ok found) earlier accepts left command is = earlier_alike spoken found command (accepts command is) is earlier left
worded_earlier spoken (Err why) earlier accepts none command is = none_left_of command earlier none

are_earlier : (spoken : List (List ℕ)) (read : Result Words WordsFault) (earlier : List Phase) → Accepts spoken read → IsReading spoken read
    → LeavesEarlier read earlier → AreEarlier spoken earlier
are_earlier spoken read earlier accepts reading left = record {
  worded = worded_earlier spoken read earlier accepts left;
  read = read;
  is_reading = reading;
  left = left;
}

pub earlier_ok : (spoken : List (List ℕ)) (read : Result Words WordsFault) (earlier : List Phase)
    → Accepts spoken read → IfOk read (IsRead spoken) → (read ≡ Err fault.Usage → (command : Words) → AreReadAs spoken command → ⊥)
    → (found command : Words) → read ≡ Ok found → found ≡ command → LeavesEarlier (Ok command) earlier → AreEarlier spoken earlier
earlier_ok spoken read earlier accepts is usage found command first then left =
    let as_read : read ≡ Ok command = cc in
    are_earlier spoken read earlier accepts (reading_of spoken read accepts is usage)
    (subst (λ (r : Result Words WordsFault). LeavesEarlier r earlier) (sym as_read) left)

pub earlier_err : (spoken : List (List ℕ)) (read : Result Words WordsFault) (earlier : List Phase)
    → Accepts spoken read → IfOk read (IsRead spoken) → (read ≡ Err fault.Usage → (command : Words) → AreReadAs spoken command → ⊥)
    → (why : WordsFault) → read ≡ Err why → earlier ≡ [] → AreEarlier spoken earlier
earlier_err spoken read earlier accepts is usage why first none =
    are_earlier spoken read earlier accepts (reading_of spoken read accepts is usage)
    (subst (λ (r : Result Words WordsFault). LeavesEarlier r earlier) (sym first) none)

-- ---- what the files have at the end, by what the words were read as

-- where none was touched
none_saved : (command : Words) (ended : Status) (rows : Option Tables) (left : Left) (old new : Files) → SameTexts old new
    → is_done ended ≡ false → SavedAs (Ok command) ended rows left old new
none_saved (words.Replay at) ended rows left old new same undone = same
none_saved (words.Work at spec) ended rows left old new same undone = same
none_saved (words.Warm at spec) ended rows left old new same undone = same
none_saved (words.Serve at spec) ended rows left old new same undone = unsaved_at spec.warm ended spec rows left old new undone same
none_saved (words.Page text) ended rows left old new same undone = same

-- what a server saved is what one of the same words saves
same_saved : (path other : Option (Vec ℕ Global)) (found spec : ServeSpec) (ended : Status) (rows : Option Tables) (left : Left) (old new : Files)
    → path_in path ≡ path_in other → serve_shape found ≡ serve_shape spec → SavesAt path ended found rows left old new
    → SavesAt other ended spec rows left old new
same_saved None None found spec ended rows left old new same shape h = h
same_saved None (Some other) found spec ended rows left old new same shape h = absurd cc
same_saved (Some path) None found spec ended rows left old new same shape h = absurd cc
same_saved (Some path) (Some other) found spec status.Done rows left old new same shape h =
    let at : path.items ≡ other.items = cc in
    record {
      saved = subst (λ (p : List ℕ). HasText (IsSavedText spec rows left) (new p)) at (same_text (new path.items) h.saved);
      tells = subst (λ (p : List ℕ). IsSome (old p) → IsSome (new p)) at h.tells;
      others = subst (λ (p : List ℕ). SameElsewhere p old new) at h.others;
    }
  where
    shards : found.shards ≡ spec.shards
    shards = ap (λ (s : Shape). s.shards) shape

    same_text : (there : Told) → HasText (IsSavedText found rows left) there → HasText (IsSavedText spec rows left) there
    same_text there are = λ known here.
        let has = are known here in
        let is = has.2 in (
          has.0,
          has.1,
          record {
            opening = is.opening;
            opening_is = is.opening_is;
            dumps = is.dumps;
            are_dumps = subst (λ n. AreDumps n is.dumps) shards is.are_dumps;
            text_is = is.text_is;
            each = λ place steps dump at at_dump.
                subst (λ (s : Shape). IsDumpedOf (hub_terms s serve_rolls place) rows is.opening left.log steps dump) shape (is.each place steps dump at at_dump);
          },
        )
same_saved (Some path) (Some other) found spec status.Usage rows left old new same shape h = h
same_saved (Some path) (Some other) found spec (status.Script line kind) rows left old new same shape h = h
same_saved (Some path) (Some other) found spec status.ReadFault rows left old new same shape h = h
same_saved (Some path) (Some other) found spec status.WriteFault rows left old new same shape h = h
same_saved (Some path) (Some other) found spec status.DoorFault rows left old new same shape h = h
same_saved (Some path) (Some other) found spec status.KeepFault rows left old new same shape h = h
same_saved (Some path) (Some other) found spec (status.Spent shard) rows left old new same shape h = h
same_saved (Some path) (Some other) found spec status.FileFault rows left old new same shape h = h
same_saved (Some path) (Some other) found spec status.Memory rows left old new same shape h = h

-- a command that is no server touches no file, and the words of one are not another's
saved_alike : (spoken : List (List ℕ)) (found command : Words) → AreWords spoken found → AreWords spoken command
    → (ended : Status) (rows : Option Tables) (left : Left) (old new : Files) → SavedAs (Ok found) ended rows left old new → SavedAs (Ok command) ended rows left old new
saved_alike spoken (words.Serve at spec) (words.Serve place other) h k ended rows left old new saved =
    let same = served_alike spoken at place spec other h k in
    same_saved spec.warm other.warm spec other ended rows left old new same.warm (same_shape spec other same.members same.shards) saved
saved_alike spoken (words.Serve at spec) (words.Replay place) h k ended rows left old new saved = absurd (replay_or_serve spoken place at spec k h)
saved_alike spoken (words.Serve at spec) (words.Work place other) h k ended rows left old new saved = absurd (work_or_serve spoken place at other spec k h)
saved_alike spoken (words.Serve at spec) (words.Warm place other) h k ended rows left old new saved = absurd (warm_or_serve spoken place at other spec k h)
saved_alike spoken (words.Serve at spec) (words.Page text) h k ended rows left old new saved = absurd k.are_command
saved_alike spoken (words.Page text) command h k ended rows left old new saved = absurd h.are_command
saved_alike spoken (words.Replay at) (words.Replay place) h k ended rows left old new saved = saved
saved_alike spoken (words.Replay at) (words.Work place other) h k ended rows left old new saved = saved
saved_alike spoken (words.Replay at) (words.Warm place other) h k ended rows left old new saved = saved
saved_alike spoken (words.Replay at) (words.Page text) h k ended rows left old new saved = saved
saved_alike spoken (words.Replay at) (words.Serve place other) h k ended rows left old new saved = absurd (replay_or_serve spoken at place other h k)
saved_alike spoken (words.Work at spec) (words.Replay place) h k ended rows left old new saved = saved
saved_alike spoken (words.Work at spec) (words.Work place other) h k ended rows left old new saved = saved
saved_alike spoken (words.Work at spec) (words.Warm place other) h k ended rows left old new saved = saved
saved_alike spoken (words.Work at spec) (words.Page text) h k ended rows left old new saved = saved
saved_alike spoken (words.Work at spec) (words.Serve place other) h k ended rows left old new saved = absurd (work_or_serve spoken at place spec other h k)
saved_alike spoken (words.Warm at spec) (words.Replay place) h k ended rows left old new saved = saved
saved_alike spoken (words.Warm at spec) (words.Work place other) h k ended rows left old new saved = saved
saved_alike spoken (words.Warm at spec) (words.Warm place other) h k ended rows left old new saved = saved
saved_alike spoken (words.Warm at spec) (words.Page text) h k ended rows left old new saved = saved
saved_alike spoken (words.Warm at spec) (words.Serve place other) h k ended rows left old new saved = absurd (warm_or_serve spoken at place spec other h k)

worded_saved : (spoken : List (List ℕ)) (read : Result Words WordsFault) (ended : Status) (rows : Option Tables) (left : Left) (old new : Files)
    → Accepts spoken read → ((why : WordsFault) → read ≡ Err why → is_done ended ≡ false) → SavedAs read ended rows left old new
    → (command : Words) → AreWords spoken command → SavedAs (Ok command) ended rows left old new
worded_saved spoken (Ok found) ended rows left old new accepts undone saved command is =
    saved_alike spoken found command (accepts command is) is ended rows left old new saved
worded_saved spoken (Err why) ended rows left old new accepts undone same command is = none_saved command ended rows left old new same (undone why refl)

are_saved : (spoken : List (List ℕ)) (read : Result Words WordsFault) (ended : Status) (rows : Option Tables) (left : Left) (old new : Files)
    → Accepts spoken read → ((why : WordsFault) → read ≡ Err why → is_done ended ≡ false) → IsReading spoken read → SavedAs read ended rows left old new
    → AreSaved spoken ended rows left old new
are_saved spoken read ended rows left old new accepts undone reading saved = record {
  worded = worded_saved spoken read ended rows left old new accepts undone saved;
  read = read;
  is_reading = reading;
  saved = saved;
}

pub saved_ok : (spoken : List (List ℕ)) (read : Result Words WordsFault) (ended : Status) (rows : Option Tables) (left : Left) (old new : Files)
    → Accepts spoken read → IfOk read (IsRead spoken) → (read ≡ Err fault.Usage → (command : Words) → AreReadAs spoken command → ⊥)
    → (found command : Words) → read ≡ Ok found → found ≡ command → SavedAs (Ok command) ended rows left old new → AreSaved spoken ended rows left old new
saved_ok spoken read ended rows left old new accepts is usage found command first then saved =
    let as_read : read ≡ Ok command = cc in
    are_saved spoken read ended rows left old new accepts (λ why no. absurd cc) (reading_of spoken read accepts is usage)
    (subst (λ (r : Result Words WordsFault). SavedAs r ended rows left old new) (sym as_read) saved)

pub saved_err : (spoken : List (List ℕ)) (read : Result Words WordsFault) (ended : Status) (rows : Option Tables) (left : Left) (old new : Files)
    → Accepts spoken read → IfOk read (IsRead spoken) → (read ≡ Err fault.Usage → (command : Words) → AreReadAs spoken command → ⊥)
    → (why : WordsFault) → read ≡ Err why → is_done ended ≡ false → SameTexts old new → AreSaved spoken ended rows left old new
saved_err spoken read ended rows left old new accepts is usage why first undone same =
    are_saved spoken read ended rows left old new accepts (λ other no. undone) (reading_of spoken read accepts is usage)
    (subst (λ (r : Result Words WordsFault). SavedAs r ended rows left old new) (sym first) same)
