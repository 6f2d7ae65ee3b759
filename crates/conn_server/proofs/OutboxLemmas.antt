-- What waits to be written, one piece more.
use Rattle.std.proofs.Common.{ℕ, ◌+◌, ◌≡◌, ◌≢◌, ◌<◌, Bool, List, [], ◌∷◌, ◌++◌, length, take, drop, get_or, take-suc, add-one, append_assoc, append-nil, refl, sym, ap, subst, ◌∙◌, inl, inr, arith}
use Rattle.std.specs.Prelude.{true, false, Result, Ok, Err}
use Rattle.std.specs.List.{flat_map}
use Rattle.std.proofs.lemmas.Grind.{flat_map-append}
use Rattle.std.proofs.lemmas.List.{take-append-drop}
use Rattle.iq_outside.specs.Outside.{Rose, WriteSide}
use Rattle.iq_outside.proofs.OutsideLemmas.{Gains-append, Gains-none, Rose-later}
use Rattle.mc_text.specs.PlainReplies.{item_text, items_text, plain_text}
use Rattle.mc_text.specs.declared.plain_replies.Found.{Found}
use Rattle.mc_text.specs.declared.plain_replies.PlainReply.{PlainReply}
use Rattle.mc_text.specs.declared.plain_replies.PlainReply.TheVariants as PlainReply
use Rattle.conn_server.specs.declared.ends.LineEnd.{LineEnd}
use Rattle.conn_server.specs.declared.ends.LineEnd.TheVariants as ends
use Rattle.conn_server.specs.declared.outgoing.Response.{Response}
use Rattle.conn_server.specs.declared.outgoing.Response.TheVariants.{Plain}
use Rattle.conn_server.specs.Outgoing.{response_text, end_text, HasNoItem}
use Rattle.conn_server.specs.Outbox.{IsPiece, WaitsFew, Sends, SendsSome, Stops, Puts, Flushes}

-- nothing waits, or fewer bytes than those at which they are sent
pub waits_none : (bytes : List ℕ) → bytes ≡ [] → WaitsFew bytes
waits_none bytes none = (bytes, omega (arith, ap (λ (xs : List ℕ). length xs) none), inl refl)

pub waits_same : (old new : List ℕ) → length old < 65536 → new ≡ old → WaitsFew new
waits_same old new short same = (old, short, inl same)

pub waits_short : (bytes : List ℕ) → length bytes < 65536 → WaitsFew bytes
waits_short bytes short = (bytes, short, inl refl)

-- a piece more
waits_piece : (old new piece : List ℕ) → length old < 65536 → new ≡ old ++ piece → IsPiece piece → WaitsFew new
waits_piece old new piece short is p = (old, short, inr (piece, p, is))

pub waits_item : (is_told : Bool) (item : Found) (old new : List ℕ) → length old < 65536 → new ≡ old ++ item_text is_told item → WaitsFew new
waits_item is_told item old new short is = waits_piece old new (item_text is_told item) short is (inl (item, is_told, refl))

pub waits_whole : (heard : Response) (old new : List ℕ) → length old < 65536 → HasNoItem heard → new ≡ old ++ response_text heard → WaitsFew new
waits_whole heard old new short none is = waits_piece old new (response_text heard) short is (inr (heard, none, refl))

-- the line behind the last item is what is told where none was found
no_items_text : end_text ≡ response_text (Plain (PlainReply.Values []) false)
unfolding plain_text
no_items_text = refl

pub waits_end : (old new : List ℕ) → length old < 65536 → new ≡ old ++ end_text → WaitsFew new
waits_end old new short is = waits_piece old new end_text short is (inr (Plain (PlainReply.Values []) false, refl, no_items_text))

-- what waited was sent whole, or a beginning of it
pub flush_puts : {X : Type 0} (result : Result X LineEnd) (old new : WriteSide) (bytes waits : List ℕ)
    → Flushes result old new bytes → waits ≡ [] → Puts result old new bytes waits
flush_puts (Ok x) old new bytes waits f none =
    record { sent = bytes; gains = f.0; all = sym (append-nil bytes) ∙ ap (λ (xs : List ℕ). bytes ++ xs) (sym none); no_fault = f.1 }
flush_puts (Err ends.WriteFault) old new bytes waits f none =
    let sent = take f.0.0 bytes in (
      record {
        sent = sent;
        lost = drop f.0.0 bytes;
        gains = f.0.1;
        some = sym (take-append-drop f.0.0 bytes)
            ∙ ap (λ (xs : List ℕ). xs ++ drop f.0.0 bytes) (sym (append-nil sent) ∙ ap (λ (xs : List ℕ). sent ++ xs) (sym none));
      },
      f.1,
      f.2,
    )
flush_puts (Err other) old new bytes waits f none = absurd f

-- nothing was sent
pub sends_none : (writes : WriteSide) (due waits : List ℕ) → due ≡ waits → Sends writes writes due waits
sends_none writes due waits same = record { sent = []; gains = Gains-none writes.taken; all = same; no_fault = refl }

-- a piece was put behind what waits
pub sends_piece : (old new : WriteSide) (due waits piece more : List ℕ) → Sends old new due waits → more ≡ waits ++ piece → Sends old new (due ++ piece) more
sends_piece old new due waits piece more s is = record {
  sent = s.sent;
  gains = s.gains;
  all = ap (λ (xs : List ℕ). xs ++ piece) s.all ∙ append_assoc s.sent waits piece ∙ ap (λ (xs : List ℕ). s.sent ++ xs) (sym is);
  no_fault = s.no_fault;
}

-- where a first part was sent, it is a first part of more too
some_more : (old new : WriteSide) (due waits more : List ℕ) → SendsSome old new due waits → SendsSome old new (due ++ more) waits
some_more old new due waits more s = record {
  sent = s.sent;
  lost = s.lost ++ more;
  gains = s.gains;
  some = ap (λ (xs : List ℕ). xs ++ more) s.some ∙ append_assoc (s.sent ++ waits) s.lost more;
}

stops_before : (end : LineEnd) (old new : WriteSide) (due waits more : List ℕ)
    → Stops end old new due waits → Stops end old new (due ++ more) waits
stops_before ends.Memory old new due waits more p = (some_more old new due waits more p.0, p.1)
stops_before ends.WriteFault old new due waits more p = (some_more old new due waits more p.0, p.1, p.2)
stops_before other old new due waits more p = absurd p

-- a first part was sent before, and then some
then_some : (old mid new : WriteSide) (due waited piece waits : List ℕ) → Sends old mid due waited → SendsSome mid new (waited ++ piece) waits
    → SendsSome old new (due ++ piece) waits
then_some old mid new due waited piece waits a b = record {
  sent = a.sent ++ b.sent;
  lost = b.lost;
  gains = Gains-append old.taken mid.taken new.taken a.sent b.sent a.gains b.gains;
  some = ap (λ (xs : List ℕ). xs ++ piece) a.all ∙ append_assoc a.sent waited piece ∙ ap (λ (xs : List ℕ). a.sent ++ xs) b.some
      ∙ sym (append_assoc a.sent (b.sent ++ waits) b.lost) ∙ ap (λ (xs : List ℕ). xs ++ b.lost) (sym (append_assoc a.sent b.sent waits));
}

-- what is put behind what was put before
pub puts_then : {X : Type 0} (result : Result X LineEnd) (old mid new : WriteSide) (due waited piece waits : List ℕ)
    → Sends old mid due waited → Puts result mid new (waited ++ piece) waits → Puts result old new (due ++ piece) waits
puts_then (Ok x) old mid new due waited piece waits a b = record {
  sent = a.sent ++ b.sent;
  gains = Gains-append old.taken mid.taken new.taken a.sent b.sent a.gains b.gains;
  all = ap (λ (xs : List ℕ). xs ++ piece) a.all ∙ append_assoc a.sent waited piece ∙ ap (λ (xs : List ℕ). a.sent ++ xs) b.all
      ∙ sym (append_assoc a.sent b.sent waits);
  no_fault = b.no_fault ∙ a.no_fault;
}
puts_then (Err ends.Memory) old mid new due waited piece waits a b = (then_some old mid new due waited piece waits a b.0, b.1 ∙ a.no_fault)
puts_then (Err ends.WriteFault) old mid new due waited piece waits a b =
    let up = b.2 in
    (then_some old mid new due waited piece waits a b.0, Rose-later old.faults mid.faults new.faults (omega (arith, a.no_fault)) b.1, omega (arith, a.no_fault))
puts_then (Err other) old mid new due waited piece waits a b = absurd b

-- the texts of the first items, and of one more
items_more : (is_told : Bool) (found : List Found) (i : ℕ) (item : Found) → i < length found → item ≡ get_or found i item
    → flat_map (item_text is_told) (take (i + 1) found) ≡ flat_map (item_text is_told) (take i found) ++ item_text is_told item
items_more is_told found i item below is =
    let text = item_text is_told in
    ap (λ (xs : List Found). flat_map text xs)
    (ap (λ (n : ℕ). take n found) (add-one i) ∙ take-suc found i item below ∙ ap (λ (f : Found). take i found ++ f ∷ []) (sym is))
    ∙ flat_map-append text (take i found) (item ∷ [])
    ∙ ap (λ (xs : List ℕ). flat_map text (take i found) ++ xs) (append-nil (text item))

-- one item more was told
pub items_next : (is_told : Bool) (found : List Found) (i : ℕ) (item : Found) (old mid new : WriteSide) (first waited waits : List ℕ)
    → i < length found → item ≡ get_or found i item
    → Sends old mid (first ++ flat_map (item_text is_told) (take i found)) waited
    → Sends mid new (waited ++ item_text is_told item) waits
    → Sends old new (first ++ flat_map (item_text is_told) (take (i + 1) found)) waits
items_next is_told found i item old mid new first waited waits below is a b =
    let before = flat_map (item_text is_told) (take i found) in
    let one = item_text is_told item in
    let s = puts_then {X = Bool} (Ok false) old mid new (first ++ before) waited one waits a b in
    rw (items_more is_told found i item below is, ← append_assoc first before one) s

-- the texts of all items are those of the first ones and one, and others
items_split : (is_told : Bool) (found : List Found) (i : ℕ) (item : Found) → i < length found → item ≡ get_or found i item
    → items_text is_told found
    ≡ (flat_map (item_text is_told) (take i found) ++ item_text is_told item) ++ (flat_map (item_text is_told) (drop (i + 1) found) ++ end_text)
items_split is_told found i item below is =
    let text = item_text is_told in
    let front = flat_map text (take (i + 1) found) in
    let back = flat_map text (drop (i + 1) found) in
    ap (λ (xs : List ℕ). xs ++ end_text)
    (ap (λ (xs : List Found). flat_map text xs) (sym (take-append-drop (i + 1) found)) ∙ flat_map-append text (take (i + 1) found) (drop (i + 1) found))
    ∙ append_assoc front back end_text
    ∙ ap (λ (xs : List ℕ). xs ++ (back ++ end_text)) (items_more is_told found i item below is)

-- an item was not told whole
pub items_stop : (end : LineEnd) (is_told : Bool) (found : List Found) (i : ℕ) (item : Found) (old mid new : WriteSide)
    (first waited waits : List ℕ)
    → i < length found → item ≡ get_or found i item
    → Sends old mid (first ++ flat_map (item_text is_told) (take i found)) waited
    → Stops end mid new (waited ++ item_text is_told item) waits
    → Stops end old new (first ++ items_text is_told found) waits
items_stop end is_told found i item old mid new first waited waits below is a b =
    let before = flat_map (item_text is_told) (take i found) in
    let one = item_text is_told item in
    let others = flat_map (item_text is_told) (drop (i + 1) found) ++ end_text in
    let p = stops_before end old new ((first ++ before) ++ one) waits others
    (puts_then {X = Bool} (Err end) old mid new (first ++ before) waited one waits a b) in
    rw (items_split is_told found i item below is, ← append_assoc first (before ++ one) others, ← append_assoc first before one) p

-- all items were told, and then the end
pub items_end : {X : Type 0} (result : Result X LineEnd) (is_told : Bool) (found : List Found) (i : ℕ) (old mid new : WriteSide) (first waited waits : List ℕ)
    → take i found ≡ found
    → Sends old mid (first ++ flat_map (item_text is_told) (take i found)) waited
    → Puts result mid new (waited ++ end_text) waits
    → Puts result old new (first ++ items_text is_told found) waits
items_end result is_told found i old mid new first waited waits all a b =
    let every = flat_map (item_text is_told) found in
    let here : Sends old mid (first ++ every) waited =
    subst (λ (xs : List Found). Sends old mid (first ++ flat_map (item_text is_told) xs) waited) all a in
    rw (← append_assoc first every end_text) (puts_then result old mid new (first ++ every) waited end_text waits here b)

-- what isn't the items that a `get` or a `gets` found tells none
none_of : (answer : PlainReply) → ((found : List Found) → answer ≢ PlainReply.Values found) → ((found : List Found) → answer ≢ PlainReply.Uniques found)
    → HasNoItem (Plain answer false)
none_of (PlainReply.Values found) not_values not_uniques = absurd (not_values found refl)
none_of (PlainReply.Uniques found) not_values not_uniques = absurd (not_uniques found refl)
none_of answer not_values not_uniques = tt

pub no_item : (heard : Response) (answer : PlainReply) (noreply : Bool) → heard ≡ Plain answer noreply → noreply ≡ false
    → ((found : List Found) → answer ≢ PlainReply.Values found) → ((found : List Found) → answer ≢ PlainReply.Uniques found) → HasNoItem heard
no_item heard answer noreply is silent not_values not_uniques =
    subst (λ (t : Response). HasNoItem t) (sym (is ∙ ap (λ (b : Bool). Plain answer b) silent)) (none_of answer not_values not_uniques)

-- the text of what was found
values_so : (found : List Found) → items_text false found ≡ response_text (Plain (PlainReply.Values found) false)
unfolding plain_text
values_so found = refl

pub values_text : (heard : Response) (answer : PlainReply) (found items : List Found) (noreply : Bool)
    → heard ≡ Plain answer noreply → answer ≡ PlainReply.Values found → noreply ≡ false → items ≡ found → items_text false items ≡ response_text heard
values_text heard answer found items noreply is by_reply silent same =
    values_so items
    ∙ (ap (λ (fs : List Found). response_text (Plain (PlainReply.Values fs) false)) same
    ∙ sym (ap response_text is ∙ (ap (λ (a : PlainReply). response_text (Plain a noreply)) by_reply
    ∙ ap (λ (b : Bool). response_text (Plain (PlainReply.Values found) b)) silent)))

uniques_so : (found : List Found) → items_text true found ≡ response_text (Plain (PlainReply.Uniques found) false)
unfolding plain_text
uniques_so found = refl

pub uniques_text : (heard : Response) (answer : PlainReply) (found items : List Found) (noreply : Bool)
    → heard ≡ Plain answer noreply → answer ≡ PlainReply.Uniques found → noreply ≡ false → items ≡ found → items_text true items ≡ response_text heard
uniques_text heard answer found items noreply is by_reply silent same =
    uniques_so items
    ∙ (ap (λ (fs : List Found). response_text (Plain (PlainReply.Uniques fs) false)) same
    ∙ sym (ap response_text is ∙ (ap (λ (a : PlainReply). response_text (Plain a noreply)) by_reply
    ∙ ap (λ (b : Bool). response_text (Plain (PlainReply.Uniques found) b)) silent)))
