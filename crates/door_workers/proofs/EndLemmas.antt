-- How the lines ended that were handed back, one line further.
use Rattle.std.proofs.Common.{ℕ, ◌≡◌, ◌++◌, List, [], ◌∷◌, Option, Some, None, refl, sym, ap, subst, ◌∙◌, append_assoc, append-nil, inl, inr}
use Rattle.std.specs.Option.{option_map, ForSome}
use Rattle.iq_outside.specs.Outside.{Gains, HandedBack, IsFresh, LineRecord, ReadSide, WriteSide}
use Rattle.session_client.specs.Desks.{Exchange}
use Rattle.plain_ops.specs.Desks.{PlainCall}
use Rattle.conn_server.specs.declared.ends.LineEnd.{LineEnd}
use Rattle.conn_server.specs.Service.{IsServed, Served}
use Rattle.door_workers.specs.Attending.{one_more}
use Rattle.door_workers.specs.Ends.{IsEnded, AreEnded, AreHandedBack, AreServed}

-- one more line that was served to its end
ended-append : (lines : List LineRecord) (ends : List LineEnd) (line : LineRecord) (end : LineEnd)
    → AreEnded lines ends → IsEnded line end → AreEnded (lines ++ line ∷ []) (ends ++ end ∷ [])
ended-append [] [] line end are is = (is, tt)
ended-append [] (other ∷ ends) line end are is = absurd are
ended-append (other ∷ lines) [] line end are is = absurd are
ended-append (first ∷ lines) (ended ∷ ends) line end are is = (are.0, ended-append lines ends line end are.1 is)

-- where none was handed back
pub none-handed : (closed : Option (List LineRecord)) → AreHandedBack [] closed closed
none-handed None = inl refl
none-handed (Some lines) = inr ([], ap (λ (l : List LineRecord). Some l) (sym (append-nil lines)), tt)

behind : (lines : List LineRecord) (line : LineRecord) (before : Option (List LineRecord))
    → option_map (λ closed. closed ++ line ∷ []) (option_map (λ closed. closed ++ lines) before) ≡ option_map (λ closed. closed ++ (lines ++ line ∷ [])) before
behind lines line None = refl
behind lines line (Some closed) = ap (λ (l : List LineRecord). Some l) (append_assoc closed lines (line ∷ []))

-- one more line was handed back
pub handed-one : (ends : List LineEnd) (before mid after : Option (List LineRecord)) (line : LineRecord) (end : LineEnd)
    → AreHandedBack ends before mid → HandedBack mid after line → IsEnded line end → AreHandedBack (ends ++ end ∷ []) before after
handed-one ends before mid after line end are (inl none) is = inl none
handed-one ends before mid after line end (inl none) (inr then) is =
    inl (then ∙ ap (λ (m : Option (List LineRecord)). option_map (λ lines. lines ++ line ∷ []) m) none)
handed-one ends before mid after line end (inr are) (inr then) is =
    inr (
      are.0 ++ line ∷ [],
      then ∙ (ap (λ (m : Option (List LineRecord)). option_map (λ lines. lines ++ line ∷ []) m) are.1 ∙ behind are.0 line before),
      ended-append are.0 ends line end are.2 is,
    )

-- what a line gave that had given nothing
given-all : (before after : Option (List ℕ)) (bytes : List ℕ) → Gains before after bytes → ForSome before (λ given. given ≡ [])
    → ForSome after (λ given. given ≡ bytes)
given-all None after bytes gains none = λ given is.
    let untold : None ≡ Some given = sym gains ∙ is in
    absurd cc
given-all (Some first) after bytes gains none = λ given is.
    let all : Some (first ++ bytes) ≡ Some given = sym gains ∙ is in
    let alone : Some bytes ≡ Some given = subst (λ (l : List ℕ). Some (l ++ bytes) ≡ Some given) (none first refl) all in
    cc

both : (given taken : Option (List ℕ)) (all all_taken : List ℕ) (calls : List Exchange) (plains : List PlainCall) (end : LineEnd)
    → ForSome given (λ bytes. bytes ≡ all) → ForSome taken (λ bytes. bytes ≡ all_taken) → Served all all_taken calls plains end
    → ForSome given (λ bytes. ForSome taken (λ took. (asked : List Exchange) × (others : List PlainCall) × Served bytes took asked others end))
both given taken all all_taken calls plains end g t served = λ bytes is took are. (
  calls,
  plains,
  subst (λ (b : List ℕ). Served b took calls plains end) (sym (g bytes is))
      (subst (λ (b : List ℕ). Served all b calls plains end) (sym (t took are)) served),
)

-- a line that had given and taken nothing was served to its end
pub ended-fresh : (reads reads_new : ReadSide) (writes writes_new : WriteSide) (old new : Option (List Exchange)) (plain plain_new : Option (List PlainCall))
    (tends tends_new : Option ℕ) (end : LineEnd)
    → IsServed reads reads_new writes writes_new old new plain plain_new tends tends_new end → IsFresh reads.given writes.taken
    → IsEnded (record { reads = reads_new; writes = writes_new }) end
ended-fresh reads reads_new writes writes_new old new plain plain_new tends tends_new end served fresh = record {
  served = both reads_new.given writes_new.taken served.given served.taken served.calls served.plains end
      (given-all reads.given reads_new.given served.given served.adds fresh.0)
      (given-all writes.taken writes_new.taken served.taken served.takes fresh.1) served.served;
  none_left = served.none_left;
}

-- a line that tells the same after it was finished
pub ended-same : (reads reads_new : ReadSide) (writes writes_new : WriteSide) (end : LineEnd) → reads_new ≡ reads → writes_new ≡ writes
    → IsEnded (record { reads = reads; writes = writes }) end → IsEnded (record { reads = reads_new; writes = writes_new }) end
ended-same reads reads_new writes writes_new end r w is =
    subst (λ (x : ReadSide). IsEnded (record { reads = x; writes = writes_new }) end) (sym r)
    (subst (λ (x : WriteSide). IsEnded (record { reads = reads; writes = x }) end) (sym w) is)

-- what a line tells of a side, by its parts
pub reads-same : (old new : ReadSide) (left left_new given given_new : Option (List ℕ)) (faults faults_new : ℕ)
    → old ≡ record { left = left; given = given; faults = faults } → new ≡ record { left = left_new; given = given_new; faults = faults_new }
    → left_new ≡ left → given_new ≡ given → faults_new ≡ faults → new ≡ old
reads-same old new left left_new given given_new faults faults_new o n l g f =
    n ∙ (ap (λ (x : Option (List ℕ)). record { left = x; given = given_new; faults = faults_new }) l
    ∙ (ap (λ (x : Option (List ℕ)). record { left = left; given = x; faults = faults_new }) g
    ∙ (ap (λ (x : ℕ). record { left = left; given = given; faults = x }) f ∙ sym o)))

pub writes-same : (old new : WriteSide) (taken taken_new : Option (List ℕ)) (faults faults_new : ℕ)
    → old ≡ record { taken = taken; faults = faults } → new ≡ record { taken = taken_new; faults = faults_new }
    → taken_new ≡ taken → faults_new ≡ faults → new ≡ old
writes-same old new taken taken_new faults faults_new o n t f =
    n ∙ (ap (λ (x : Option (List ℕ)). record { taken = x; faults = faults_new }) t ∙ (ap (λ (x : ℕ). record { taken = taken; faults = x }) f ∙ sym o))

-- a line is fresh by what it tells of its sides
pub fresh-sides : (reads : ReadSide) (writes : WriteSide) (left given taken : Option (List ℕ)) (reads_failed writes_failed : ℕ)
    → reads ≡ record { left = left; given = given; faults = reads_failed } → writes ≡ record { taken = taken; faults = writes_failed }
    → IsFresh given taken → IsFresh reads.given writes.taken
fresh-sides reads writes left given taken reads_failed writes_failed r w fresh =
    subst (λ (x : ReadSide). IsFresh x.given writes.taken) (sym r) (subst (λ (x : WriteSide). IsFresh given x.taken) (sym w) fresh)

-- a line that had given and taken nothing, was served and then finished
pub line-ended : (reads reads_new reads_end : ReadSide) (writes writes_new writes_end : WriteSide) (old new : Option (List Exchange))
    (plain plain_new : Option (List PlainCall)) (tends tends_new : Option ℕ) (end : LineEnd)
    → IsServed reads reads_new writes writes_new old new plain plain_new tends tends_new end → IsFresh reads.given writes.taken
    → reads_end ≡ reads_new → writes_end ≡ writes_new
    → IsEnded (record { reads = reads_end; writes = writes_end }) end
line-ended reads reads_new reads_end writes writes_new writes_end old new plain plain_new tends tends_new end served fresh r w =
    ended-same reads_new reads_end writes_new writes_end end r w
    (ended-fresh reads reads_new writes writes_new old new plain plain_new tends tends_new end served fresh)

-- what was handed back stays so, where ends and door tell the same
pub handed-same : (ends ends_new : List LineEnd) (before closed closed_new : Option (List LineRecord)) → ends_new ≡ ends → closed_new ≡ closed
    → AreHandedBack ends before closed → AreHandedBack ends_new before closed_new
handed-same ends ends_new before closed closed_new e c are =
    subst (λ (xs : List LineEnd). AreHandedBack xs before closed_new) (sym e)
    (subst (λ (o : Option (List LineRecord)). AreHandedBack ends before o) (sym c) are)

-- ---- the same, whether ends are kept or not

pub none-served : (most : Option ℕ) (closed : Option (List LineRecord)) → AreServed most [] closed closed
none-served (Some count) closed = none-handed closed
none-served None closed = ([], none-handed closed)

pub served-same : (most : Option ℕ) (ends ends_new : List LineEnd) (before closed closed_new : Option (List LineRecord)) → ends_new ≡ ends
    → closed_new ≡ closed → AreServed most ends before closed → AreServed most ends_new before closed_new
served-same (Some count) ends ends_new before closed closed_new e c are = handed-same ends ends_new before closed closed_new e c are
served-same None ends ends_new before closed closed_new e c are = (are.0, handed-same are.0 are.0 before closed closed_new refl c are.1)

next : (most : Option ℕ) (ends : List LineEnd) (before mid after : Option (List LineRecord)) (line : LineRecord) (end : LineEnd)
    → AreServed most ends before mid → HandedBack mid after line → IsEnded line end → AreServed most (one_more most ends end) before after
next (Some count) ends before mid after line end are back is = handed-one ends before mid after line end are back is
next None ends before mid after line end are back is = (are.0 ++ end ∷ [], handed-one are.0 before mid after line end are.1 back is)

pub served-next : (kept most : Option ℕ) (ends ends_new : List LineEnd) (before mid after : Option (List LineRecord)) (line : LineRecord) (end : LineEnd)
    → kept ≡ most → ends_new ≡ one_more kept ends end → AreServed most ends before mid → HandedBack mid after line → IsEnded line end
    → AreServed most ends_new before after
served-next kept most ends ends_new before mid after line end k e are back is =
    let noted : ends_new ≡ one_more most ends end = e ∙ ap (λ (o : Option ℕ). one_more o ends end) k in
    subst (λ (xs : List LineEnd). AreServed most xs before after) (sym noted) (next most ends before mid after line end are back is)

pub served-as : (most conns : Option ℕ) (kept : List LineEnd) (before after : Option (List LineRecord)) → most ≡ conns → AreServed most kept before after
    → AreServed conns kept before after
served-as most conns kept before after same are = subst (λ (o : Option ℕ). AreServed o kept before after) same are
