-- What a writer puts or shifts while its quarantine stands alone is honest, where it was told so.
use Rattle.std.proofs.Common.{ℕ, ◌≡◌, ◌≢◌, ◌+◌, ◌-◌, ◌≤◌, ◌<◌, ◌==◌, ◌&&◌, not, Bool, true, false, List, [], ◌∷◌, ◌++◌, length, take, find, map, Option, Some, None, option_map, decimal}
use Rattle.std.proofs.Common.{refl, sym, ap, subst, ◌∙◌, inl, inr, ⊎_elim, cond, drop, append_assoc, take-append-drop, length-take, arith}
use Rattle.std.specs.List.{list_any, AllByRecursion}
use Rattle.std.proofs.lemmas.Bool.{false≢true, and_parts, and_from, or_cases, or_left, or_right, eqb-true, eq-eqb}
use Rattle.std.proofs.lemmas.Grind.{flat_map-append}
use Rattle.std.proofs.lemmas.Option.{slice_get_within}
use Rattle.rows_model.specs.declared.changes.Change.{Change}
use Rattle.rows_model.specs.declared.keys.QKey.{QKey}
use Rattle.rows_model.specs.declared.keys.Sid.{Sid}
use Rattle.rows_model.specs.Changes.{touches}
use Rattle.rows_model.specs.Delta.{delta_of}
use Rattle.rows_model.specs.Placement.{shard_of}
use Rattle.rows_model.specs.Rows.{Tables}
use Rattle.rows_model.specs.Shift.{shifted}
use Rattle.rows_model.proofs.SameKey.{same_key-refl}
use Rattle.case_tables.specs.Compatibility.{is_invalidate, verdict, raise}
use Rattle.case_tables.specs.declared.grids.Verdict.TheVariants as verdicts
use Rattle.lease_table.specs.declared.records.Mode.{Mode}
use Rattle.lease_table.specs.declared.records.Mode.TheVariants.{Invalidate, Refresh, Delta}
use Rattle.lease_table.specs.declared.records.Quar.{Quar}
use Rattle.lease_table.specs.Leases.{way_of, has_token, is_of, is_raisable, raise_in, raised, holding_of}
use Rattle.key_shard.specs.declared.steps.Step.{Step}
use Rattle.key_shard.specs.declared.steps.Step.TheVariants as step
use Rattle.key_shard.specs.Past.{Terms, standing, quar_of, entry, entry_shifted, next_token}
use Rattle.key_shard.specs.Answers.{IsLegalPast}
use Rattle.key_shard.specs.Shards.{ShardView, past_of}
use Rattle.key_shard.proofs.LegalLemmas.{is_quar, legal_stands_well, found_token}
use Rattle.key_shard.proofs.RaiseLemmas.{find-mapped, raised-same}
use Rattle.sql_keeper.specs.declared.stores.Commit.{Commit}
use Rattle.log_word.specs.declared.events.Short.{Short}
use Rattle.log_word.specs.Lists.{IsStart, steps_of}
use Rattle.log_word.specs.Steps.{IsSound, is_grant}
use Rattle.log_word.specs.Passes.{WordView, ShardPassView}
use Rattle.key_freshness.specs.Marks.{Ended, Wrote, Has, marks_in, marks_of}
use Rattle.key_freshness.specs.Known.{Known, StandsAt, IsMore, IsRuled}
use Rattle.key_freshness.specs.Moments.{IsMoment, IsSince}
use Rattle.key_freshness.specs.Held.{IsHeld, IsRight, IsEntryHeld, IsEntryRight, IsStamped}
use Rattle.key_freshness.specs.Laws.{IsOwn}
use Rattle.key_freshness.proofs.KnownLemmas.{more-stands, more-stood, more-take}
use Rattle.key_freshness.proofs.MarkLemmas.{by_test, has-back}
use Rattle.key_freshness.proofs.MomentLemmas.{known_then, more_is_right}
use Rattle.key_freshness.proofs.WriteLemmas.{put_is_held, unmoved, written_before}
use Rattle.bound_hub.specs.Shorts.{short_of, shorts_of}
use Rattle.bound_hub.specs.Knowns.{commits_of, known_of}
use Rattle.bound_hub.specs.Facts.{answer_after, stamp_of, HoldsFacts}
use Rattle.bound_hub.specs.Ties.{IsBoundShard}
use Rattle.bound_hub.specs.Writes.{IsAloneOn, WasAlone, IsLawful, refreshed_by, shifted_by, MayPut, MayShift}
use Rattle.bound_hub.proofs.AloneLemmas.{alone_one, still_alone}
use Rattle.bound_hub.proofs.FactLemmas.{was_not}
use Rattle.bound_hub.proofs.MadeLemmas.{well_made, legal_behind, next_grows}
use Rattle.bound_hub.proofs.MarkShorts.{same_marks}
use Rattle.bound_hub.proofs.PastLemmas.{stands_in, legal_tied}
use Rattle.bound_hub.proofs.RuledLemmas.{keys_are_ruled, more_is_known}
use Rattle.bound_hub.proofs.StepTies.{bound_rules}

-- the quarantine that stands alone after a step, told by the step in short
record AloneNow (key : QKey) (who token : ℕ) (past : List Step) (short : Short) : Type 0 where
  pub quar : Quar
  pub stands : quar_of key token past ≡ Some quar
  pub alone : quar.mode ≢ Invalidate
  pub mine : quar.sid.number ≡ who
  pub shift : is_grant short.kind ≡ true → quar.shift ≡ short.by

not-invalidate : (mode : Mode) → not (is_invalidate (way_of mode)) ≡ true → mode ≢ Invalidate
not-invalidate Invalidate h = absurd (false≢true h)
not-invalidate Refresh h = λ e. cc
not-invalidate Delta h = λ e. cc

has_its_token : (token : ℕ) (quars : List Quar) (quar : Quar) → find (has_token token) quars ≡ Some quar → quar.token ≡ token
has_its_token token [] quar e = absurd cc
has_its_token token (x ∷ xs) quar e =
    by_test (λ b. (x.token == token) ≡ b → cond b (Some x) (find (has_token token) xs) ≡ Some quar → quar.token ≡ token) (x.token == token)
    (λ _ is here. let same : x ≡ quar = cc in ap (λ (q : Quar). q.token) (sym same) ∙ eqb-true x.token token is)
    (λ _ _ there. has_its_token token xs quar there)
    refl e

any_weaker : (p q : Quar → Bool) → ((x : Quar) → p x ≡ true → q x ≡ true) → (xs : List Quar) → list_any p xs ≡ true → list_any q xs ≡ true
any_weaker p q more [] h = h
any_weaker p q more (x ∷ xs) h =
    ⊎_elim (λ here. or_left (q x) (list_any q xs) (more x here)) (λ there. or_right (q x) (list_any q xs) (any_weaker p q more xs there)) (or_cases (p x) (list_any p xs) h)

-- what is raised was the session's own, to invalidate
raisable : (sid : Sid) (token : ℕ) (quars : List Quar) → raise_in sid token quars ≡ verdicts.Raise → list_any (is_quar sid.number token) quars ≡ true
raisable sid token quars e =
    by_test (λ b. list_any (is_raisable sid token) quars ≡ b → cond b (verdict (holding_of sid 0 None quars) raise) verdicts.Gone ≡ verdicts.Raise → list_any (is_quar sid.number token) quars ≡ true) (list_any (is_raisable sid token) quars)
    (λ _ any _. any_weaker (is_raisable sid token) (is_quar sid.number token) weaker quars any)
    (λ _ _ gone. absurd cc)
    refl e
  where
    weaker : (x : Quar) → is_raisable sid token x ≡ true → is_quar sid.number token x ≡ true
    weaker x h =
        let both = and_parts (is_of sid x) (has_token token x && is_invalidate (way_of x.mode)) h in
        and_from (x.sid.number == sid.number) (x.token == token) both.0 (and_parts (has_token token x) (is_invalidate (way_of x.mode)) both.1).0

alone_now : (terms : Terms) (key : QKey) (who token : ℕ) (s : Step) (past : List Step) (has : Bool) → IsLegalPast terms (s ∷ past) → IsAloneOn key who token (short_of s has)
    → AloneNow key who token (s ∷ past) (short_of s has)
alone_now terms key who token (step.Granted on sid mode shift now its deadline) past has legal is =
    let s = step.Granted on sid mode shift now its deadline in
    let new : Quar = record { sid = sid; mode = mode; token = its; deadline = deadline; shift = shift } in
    let other = not-invalidate mode is.alone in
    let none : standing on past ≡ [] =
    ⊎_elim (λ empty. empty) (λ all. absurd (other (joins mode (and_parts (is_invalidate (way_of mode)) _ all).0))) (well_made terms past s legal.0).1 in
    let here : quar_of on its (s ∷ past) ≡ Some new =
    ap (λ b. find (has_token its) (cond b (standing on past ++ new ∷ []) (standing on past))) (same_key-refl on)
    ∙ ap (λ l. find (has_token its) (l ++ new ∷ [])) none ∙ ap (λ b. cond b (Some new) None) (eq-eqb its its refl) in
    record {
      quar = new;
      stands = subst (λ k. quar_of k token (s ∷ past) ≡ Some new) is.on (subst (λ t. quar_of on t (s ∷ past) ≡ Some new) is.under here);
      alone = other;
      mine = is.mine;
      shift = λ _. refl;
    }
  where
    joins : (m : Mode) → is_invalidate (way_of m) ≡ true → m ≡ Invalidate
    joins Invalidate h = refl
    joins Refresh h = absurd (false≢true h)
    joins Delta h = absurd (false≢true h)
alone_now terms key who token (step.Raised on sid its) past has legal is =
    let s = step.Raised on sid its in
    let found = found_token terms past on sid.number its (legal_stands_well terms past legal.1 on) (raisable sid its (standing on past) (well_made terms past s legal.0)) in
    let here : quar_of on its (s ∷ past) ≡ Some (raised its found.0) =
    ap (λ b. find (has_token its) (cond b (map (raised its) (standing on past)) (standing on past))) (same_key-refl on)
    ∙ find-mapped (has_token its) (raised its) (λ q. raised-same (has_token its) its q refl) (standing on past)
    ∙ ap (λ o. option_map (raised its) o) found.1 in
    record {
      quar = raised its found.0;
      stands = subst (λ k. quar_of k token (s ∷ past) ≡ Some (raised its found.0)) is.on (subst (λ t. quar_of on t (s ∷ past) ≡ Some (raised its found.0)) is.under here);
      alone = refreshes found.0 (has_its_token its (standing on past) found.0 found.1);
      mine = raised-same (λ q. q.sid.number) its found.0 refl ∙ found.2 ∙ is.mine;
      shift = λ e. absurd (false≢true e);
    }
  where
    refreshes : (q : Quar) → q.token ≡ its → (raised its q).mode ≢ Invalidate
    refreshes q same = subst (λ b. (cond b (record { sid = q.sid; mode = Refresh; token = q.token; deadline = q.deadline; shift = q.shift }) q).mode ≢ Invalidate) (sym (eq-eqb q.token its same)) (λ e. cc)
alone_now terms key who token other past has legal is = absurd (false≢true is.alone)

found_below : (next token : ℕ) (quars : List Quar) (quar : Quar) → AllByRecursion (λ q. q.token < next) quars → find (has_token token) quars ≡ Some quar → token < next
found_below next token [] quar all e = absurd cc
found_below next token (x ∷ xs) quar all e =
    by_test (λ b. (x.token == token) ≡ b → cond b (Some x) (find (has_token token) xs) ≡ Some quar → token < next) (x.token == token)
    (λ _ is _. let same = eqb-true x.token token is in let low = all.0 in omega (arith, same, low))
    (λ _ _ there. found_below next token xs quar all.1 there)
    refl e

abbrev first_or : Short → List Short → Short
first_or x [] = x
first_or x (y ∷ ys) = y

module _ (word : WordView) (opening : Tables) (before : ℕ → List Step) (old : ShardView) (pass : ShardPassView) (bound : IsBoundShard word opening before old pass)
    (legal : IsLegalPast old.terms (past_of old)) (sound : IsSound pass.word.shards pass.seen)
    (key : QKey) (who token stamp : ℕ) (home : shard_of key word.shards ≡ old.terms.no) (was : WasAlone word.shards old.terms.no key who token stamp pass.seen)
    (quar : Quar) (stands : quar_of key token (past_of old) ≡ Some quar) where
  abbrev number : ℕ
  number = old.terms.no

  abbrev then_known : Known
  then_known = known_of was.earlier.events

  abbrev known : Known
  known = known_of pass.seen.events

  -- the moment at which the quarantine came to stand alone, and what was since
  pub record AloneThen : Type 0 where
    pub steps : List Step
    pub shorts : steps_of number was.earlier.steps ≡ shorts_of (before number) steps
    pub moment : IsMoment key (Some who) (marks_of key steps) then_known
    pub since : IsSince (Some who) (marks_of key steps) (marks_of key bound.more)
    pub unwritten : (n : ℕ) → Has (Wrote n) since.more → ⊥
    pub mine : quar.sid.number ≡ who
    pub shift : is_grant was.step.kind ≡ true → quar.shift ≡ was.step.by

  pub alone_then : AloneThen
  alone_then =
      let start = subst (λ l. IsStart l (steps_of number pass.seen.steps)) was.last.1 (was.begins.steps number) in
      let at = stands_in (before number) bound.more was.step was.last.0 (subst (IsStart (was.step ∷ was.last.0)) bound.shorts_are start) in
      let s = at.step in
      let n = before number in
      let base = s ∷ at.rest ++ n in
      let past_is : past_of old ≡ at.later ++ base = bound.goes_on ∙ ap (λ l. l ++ n) at.goes_on ∙ append_assoc at.later (s ∷ at.rest) n in
      let legal_all = subst (IsLegalPast old.terms) past_is legal in
      let legal_then = legal_behind old.terms at.later base legal_all in
      let short_is = ap (first_or was.step) at.shorts in
      let now = alone_now old.terms key who token s (at.rest ++ n) _ legal_then (subst (IsAloneOn key who token) (sym short_is) was.alone) in
      let low = found_below (next_token old.terms base) token (standing key base) now.quar (legal_stands_well old.terms base legal_then key).below now.stands in
      let below : (m : List Step) → token < next_token old.terms (m ++ base) = λ m. let grown : next_token old.terms base ≤ next_token old.terms (m ++ base) = next_grows old.terms m base in omega (arith, low, grown) in
      let still = still_alone old.terms key token base now.quar now.stands now.alone below at.later legal_all quar (subst (λ past. quar_of key token past ≡ Some quar) past_is stands) in
      let shorts_then = was.last.1 ∙ sym at.shorts in
      record {
        steps = s ∷ at.rest;
        shorts = shorts_then;
        moment = record {
          ruled =
              keys_are_ruled word.shards was.earlier key n (s ∷ at.rest) was.sound
              (subst (λ k. steps_of k was.earlier.steps ≡ shorts_of n (s ∷ at.rest)) (sym home) shorts_then);
          settled = λ w t h. ⊎_elim
              (λ its. inl ((alone_one token (standing key base) now.quar (legal_stands_well old.terms base legal_then key).beside now.stands now.alone w t its).0 ∙ now.mine))
              (λ over. inr over)
              ((legal_tied old.terms key n bound.quiet (s ∷ at.rest) legal_then).granted w t h);
        };
        since = record {
          more = marks_of key at.later;
          goes_on = ap (marks_of key) at.goes_on ∙ flat_map-append (marks_in key) at.later (s ∷ at.rest);
          only = λ w t h. absurd (still.none w t h);
        };
        unwritten = still.unwritten;
        mine = ap (λ (x : Sid). x.number) (sym still.is_still.sid) ∙ now.mine;
        shift = λ grants. sym still.is_still.shift ∙ now.shift (subst (λ (x : Short). is_grant x.kind ≡ true) (sym short_is) grants) ∙ ap (λ (x : Short). x.by) short_is;
      }

  ruled_now : IsRuled key (marks_of key bound.more) known
  ruled_now = bound_rules word opening before old pass bound sound key home

  more_now : IsMore then_known known
  more_now = more_is_known was.earlier pass.seen was.begins

  its_own : IsOwn then_known known who was.place was.own
  its_own = record { at = was.at; mine = was.its_own; late = was.late }

  -- what is written then, with the number of the own commit, is held
  pub written_held : IsHeld key (Wrote stamp ∷ Ended who token ∷ marks_of key bound.more) known stamp
  written_held =
      let then = alone_then in
      subst (λ n. IsHeld key (Wrote n ∷ Ended who token ∷ marks_of key bound.more) known n) (sym was.stamp_is)
      (put_is_held key who token was.place was.own (marks_of key then.steps) (marks_of key bound.more) then_known known then.moment then.since more_now ruled_now its_own)

  -- the log up to the own commit
  abbrev early : Known
  early = record { log = take stamp known.log; ended = known.ended }

  early_more : IsMore early known
  early_more = record { more = drop stamp known.log; goes_on = sym (take-append-drop stamp known.log); kept = λ w h. h }

  placed : was.place < length known.log
  placed = slice_get_within known.log was.place was.own was.at

  early_long : length early.log ≡ was.place + 1
  early_long = let e = length-take stamp known.log in let p = placed in let s = was.stamp_is in omega (arith, e, p, s)

  -- what was right before the own commit, and lacked no commit on the key but those of quarantines that stood, the own changes make the next
  pub made_alone : (answer : List Commit → List ℕ) (next : List Change → List ℕ → Option (List ℕ)) → IsLawful key answer next early.log → (value : List ℕ) (n : ℕ) → n ≤ was.place
      → IsRight answer known.log value n
      → ((q : ℕ) (commit : Commit) (its : ℕ) → StandsAt then_known.log q commit → n ≤ q → touches commit.txn key ≡ true → Has (Ended commit.sid.number its) (marks_of key alone_then.steps) → ⊥)
      → next was.own.txn value ≡ Some (answer (take stamp known.log))
  made_alone answer next lawful value n low right pending =
      let then = alone_then in
      let long = early_long in
      let place = was.place in
      let at_early : StandsAt early.log place was.own = more-stood early_more place was.own was.at (omega (arith, long)) in
      let quiet : (q : ℕ) (commit : Commit) → StandsAt early.log q commit → n ≤ q → q < place → touches commit.txn key ≡ true → ⊥ = λ q commit at from lt touched.
      let now = more-stands early_more q commit at in
      ⊎_elim
      (λ mine. let same = ruled_now.once q place commit was.own now was.at (mine ∙ sym was.its_own) in omega (arith, same, lt))
      (λ early_enough.
      let stood = more-stood more_now q commit now early_enough in
      let granted = then.moment.ruled.covered q commit stood touched in
      ⊎_elim
      (λ mine. let same = ruled_now.once q place commit was.own now was.at (mine ∙ sym was.its_own) in omega (arith, same, lt))
      (λ over. pending q commit granted.token stood from touched over)
      (then.moment.settled commit.sid.number granted.token granted.mark))
      (known_then key (Some who) (marks_of key then.steps) (marks_of key bound.more) then_known known then.moment then.since more_now ruled_now q commit now touched) in
      let e : n + (place - n) ≡ place = omega (arith, low) in
      let same : answer (take (n + (place - n)) early.log) ≡ answer (take n early.log) =
      unmoved key answer early.log n (place - n) lawful.leaves (omega (arith, e, long)) (λ q commit at from lt touched. quiet q commit at from (omega (arith, e, lt)) touched) in
      let was_right : value ≡ answer (take n early.log) = right ∙ ap answer (more-take early_more n (omega (arith, low, long))) in
      let stamp_is = was.stamp_is in
      ap (λ v. next was.own.txn v) (was_right ∙ sym same ∙ ap (λ m. answer (take m early.log)) e)
      ∙ lawful.makes place was.own at_early
      ∙ ap (λ m. Some (answer (take m early.log))) (sym stamp_is)
      ∙ ap (λ l. Some (answer l)) (sym (more-take early_more stamp (omega (arith, stamp_is, long))))

some_same : {a b : List ℕ} → Some a ≡ Some b → a ≡ b
some_same e = cc

module _ (word : WordView) (opening : Tables) (before : ℕ → List Step) (old : ShardView) (pass : ShardPassView) (bound : IsBoundShard word opening before old pass)
    (legal : IsLegalPast old.terms (past_of old)) (sound : IsSound pass.word.shards pass.seen) (key : QKey) (who token stamp : ℕ) (home : shard_of key word.shards ≡ old.terms.no)
    (quar : Quar) (stands : quar_of key token (past_of old) ≡ Some quar) where
  abbrev n : ℕ
  n = old.terms.no

  -- what is put is right
  pub put_is_right : (value : List ℕ) (may : MayPut opening (before n) word.shards n key who token value stamp pass.seen) → pass.seen.stopped ≡ false
      → IsRight (answer_after opening key) (commits_of pass.seen.events) value stamp
  put_is_right value may telling =
      let was = may.alone in
      let then = alone_then word opening before old pass bound legal sound key who token stamp home was quar stands in
      let told_then = was_not was.earlier.stopped pass.seen.stopped was.begins.stopped telling in
      let marks = same_marks key (before n) may.held.more then.steps (sym may.held.shorts_are ∙ then.shorts) in
      let within = may.held.held.within in
      let late = was.late in
      let right = more_is_right (answer_after opening key) (known_of was.earlier.events) (known_of pass.seen.events) may.old may.old_stamp
      (more_is_known was.earlier pass.seen was.begins) within (may.held.right told_then) in
      some_same (sym may.made
      ∙ made_alone word opening before old pass bound legal sound key who token stamp home was quar stands (answer_after opening key) (refreshed_by key) (may.lawful telling)
      may.old may.old_stamp (omega (arith, within, late)) right
      (λ q commit its at from touched over. may.held.held.pending q commit its at from touched (subst (Has (Ended commit.sid.number its)) (sym marks) over)))

  -- and so is what a shift leaves
  pub shift_is_right : (may : MayShift opening word.shards n key who token stamp pass.seen) → pass.seen.stopped ≡ false
      → IsEntryRight (answer_after opening key) (commits_of pass.seen.events) (entry_shifted quar.shift stamp (entry key (bound.more ++ before n)))
  shift_is_right may telling = by (entry key (bound.more ++ before n)) facts.tied.stamped facts.held (facts.right telling)
    where
      facts : HoldsFacts opening (before n) bound.more pass.seen key
      facts = bound.facts key home

      then : AloneThen word opening before old pass bound legal sound key who token stamp home may.alone quar stands
      then = alone_then word opening before old pass bound legal sound key who token stamp home may.alone quar stands

      known_more : IsMore (known_of may.alone.earlier.events) (known_of pass.seen.events)
      known_more = more_is_known may.alone.earlier pass.seen may.alone.begins

      by : (found : Option (List ℕ × ℕ)) → IsStamped (marks_of key bound.more) (stamp_of (entry key (before n))) found → IsEntryHeld key (marks_of key bound.more) (known_of pass.seen.events) found
          → IsEntryRight (answer_after opening key) (commits_of pass.seen.events) found
          → IsEntryRight (answer_after opening key) (commits_of pass.seen.events) (entry_shifted quar.shift stamp found)
      by None stamped held right = tt
      by (Some (value, at_stamp)) stamped held right = shifts (shifted value quar.shift) refl
        where
          low : at_stamp ≤ length (commits_of may.alone.earlier.events)
          low =
              written_before key (Some who) (stamp_of (entry key (before n))) (marks_of key then.steps) then.since.more (known_of may.alone.earlier.events) value at_stamp then.moment then.unwritten
              (subst (λ ms. IsStamped ms (stamp_of (entry key (before n))) (Some (value, at_stamp))) then.since.goes_on stamped)
              (λ first is. let zero = bound.stamps key first is in omega (arith, zero))

          made : shifted_by key may.alone.own.txn value ≡ Some (answer_after opening key (take stamp (commits_of pass.seen.events)))
          made =
              made_alone word opening before old pass bound legal sound key who token stamp home may.alone quar stands (answer_after opening key) (shifted_by key) (may.lawful telling)
              value at_stamp (let l = low in let late = may.alone.late in omega (arith, l, late)) right
              (λ q commit its at from touched over.
              held.pending q commit its (more-stands known_more q commit at) from touched
              (subst (Has (Ended commit.sid.number its)) (sym then.since.goes_on) (has-back (Ended commit.sid.number its) then.since.more (marks_of key then.steps) over)))

          by_delta : quar.shift ≡ delta_of key may.alone.own.txn
          by_delta = then.shift may.granted ∙ may.by_so_much

          shifts : (number : Option ℕ) → shifted value quar.shift ≡ number
              → IsEntryRight (answer_after opening key) (commits_of pass.seen.events) (option_map (λ m. (decimal m, stamp)) number)
          shifts None is = tt
          shifts (Some m) is = some_same (sym (ap (option_map decimal) (ap (shifted value) (sym by_delta) ∙ is)) ∙ made)
