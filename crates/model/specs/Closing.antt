-- Closing epoch n, the one after the last closed.
use Rattle.std.specs.Prelude.{ℕ, suc, Bool, true, false, not, ◌&&◌, ◌||◌, List, [], ◌∷◌, ◌++◌, map, leb, ltb, eqb, length, if◌then◌else◌, Result, Ok, Err}
use Rattle.model.specs.Lists.{filter, any, upward, count_below, bits_of}
use Rattle.model.specs.Entry.{PUT, DELETE, P, CC, CP, A}
use Rattle.model.specs.Account.{Held, key, coordinator, Record, absent, present, Fragment, Account, Named, refused, found}
use Rattle.model.specs.declared.Refusal.TheVariants.{MarkMissing, TooShort}
use Rattle.model.specs.declared.Refusal.{Refusal}

-- ---- possible when every stream has taken mark n

-- stream i has not taken mark n: the epoch open there is not above n
unfoldable pub missing : Account → ℕ → Bool
missing a i = leb (a.at i).counters.epoch (suc a.closed)

-- refusal 12: a mark is missing; also a byte, bit i for stream i, and how many streams are missing
unfoldable pub judge_close : Account → Result (Unit {0}) Refusal
judge_close a =
    if eqb (count_below (missing a) a.fragments) 0 then Ok tt
    else Err (MarkMissing (bits_of (missing a) a.fragments) (count_below (missing a) a.fragments))

-- a list has room for the pieces of 256 entries
abbrev pub LEAST_LIST : ℕ
LEAST_LIST = 512

-- 16, then 12, of a close whose list has room for so many numbers
unfoldable pub judge_room : Account → ℕ → Result (Unit {0}) Refusal
judge_room a room = if ltb room LEAST_LIST then Err TooShort else judge_close a

-- ---- what becomes of each transaction

-- only held entries of epochs up to n are looked at
unfoldable pub upto : ℕ → List Held → List Held
upto n hs = filter (λ h. leb h.epoch n) hs

-- h is of kind k and of transaction t
abbrev pub is : ℕ → ℕ → Held → Bool
is k t h = eqb h.kind k && eqb h.transaction t

abbrev pub flagged_p : ℕ → Held → Bool
flagged_p t h = is P t h && h.flagged

abbrev pub unflagged_p : ℕ → Held → Bool
unflagged_p t h = is P t h && not h.flagged

pub data Verdict : Type 0 where
  free install flag stay : Verdict

-- transaction t in a stream whose entries looked at are es; `decided c` says whether stream c has CC(t)
unfoldable pub verdict : (ℕ → ℕ → Bool) → List Held → ℕ → Verdict
verdict decided es t =
    if any (is A t) es then free
    else if any (is CC t) es || any (is CP t) es && any (unflagged_p t) es then install
    else if any (is CP t) es && any (flagged_p t) es then free
    else if any (λ h. unflagged_p t h && decided (coordinator h) t) es then flag
    else stay

-- stream c has CC(t), in an epoch up to n
unfoldable pub committed : ℕ → (ℕ → List Held) → ℕ → ℕ → Bool
committed n held c t = any (is CC t) (upto n (held c))

abbrev pub installs : Verdict → Bool
installs free = false
installs install = true
installs flag = false
installs stay = false

abbrev pub flags : Verdict → Bool
flags free = false
flags install = false
flags flag = true
flags stay = false

-- the transactions installed: those with CC or CP first, by that entry's position; then the flagged ones, by position of P
unfoldable pub pieces : (ℕ → Verdict) → List Held → List ℕ
pieces v es =
    map (λ h. h.transaction) (filter (λ h. (eqb h.kind CC || eqb h.kind CP) && installs (v h.transaction)) es)
    ++ map (λ h. h.transaction) (filter (λ h. eqb h.kind P && flags (v h.transaction)) es)

-- ---- what stays held

abbrev pub with_flag : Held → Held
with_flag h = record { kind = h.kind; transaction = h.transaction; argument = h.argument; value = h.value; flagged = true; epoch = h.epoch }

-- what is left of an entry that is looked at
unfoldable pub left : Verdict → Held → List Held
left free h = []
left install h = []
left flag h = if eqb h.kind P then with_flag h ∷ [] else []
left stay h = h ∷ []

unfoldable pub survivors : ℕ → (ℕ → Verdict) → List Held → List Held
survivors n v [] = []
survivors n v (h ∷ hs) = (if leb h.epoch n then left (v h.transaction) h else h ∷ []) ++ survivors n v hs

-- ---- what the records become

-- h writes the record of key k, and what it leaves there
abbrev pub writes_to : ℕ → Held → Bool
writes_to k h = leb h.kind DELETE && eqb (key h) k

abbrev pub written : Held → Record
written h = if eqb h.kind PUT then present h.value else absent

-- the record of key k after the writes, in stream order, of the transactions that D picks
unfoldable pub after_writes : (ℕ → Bool) → ℕ → List Held → Record → Record
after_writes D k [] x = x
after_writes D k (h ∷ hs) x = after_writes D k hs (if writes_to k h && D h.transaction then written h else x)

-- the same after the writes of one piece after the other
unfoldable pub apply : List ℕ → ℕ → List Held → Record → Record
apply [] k es x = x
apply (t ∷ ts) k es x = apply ts k es (after_writes (λ u. eqb u t) k es x)

-- ---- the close

unfoldable pub settle : ℕ → (ℕ → ℕ → Bool) → Fragment → Fragment
settle n decided s =
    let es = upto n s.held in
    let v = verdict decided es in
    record { counters = s.counters; held = survivors n v s.held; records = λ k. apply (pieces v es) k es (s.records k) }

unfoldable pub close : Account → Account
close a =
    let n = suc a.closed in
    record { number = a.number; fragments = a.fragments; keys = a.keys; closed = n; at = λ i. settle n (committed n (λ c. (a.at c).held)) (a.at i) }

-- the transactions that the next close installs at fragment i
unfoldable pub installed : Account → ℕ → List ℕ
installed a i =
    let n = suc a.closed in
    let es = upto n (a.at i).held in
    pieces (verdict (committed n (λ c. (a.at c).held)) es) es

-- ---- the list that close writes: pairs (fragment, transaction), stream 0 first

pub record Piece : Type 0 where
  pub fragment : ℕ
  pub transaction : ℕ

unfoldable pub listed : Account → List Piece
listed a = upward a.fragments 0 (λ i. map (λ t. record { fragment = i; transaction = t }) (installed a i))

-- as numbers, one after the other
unfoldable pub pairs : List Piece → List ℕ
pairs [] = []
pairs (p ∷ ps) = p.fragment ∷ p.transaction ∷ pairs ps

-- ---- close's answer: 1 to 3 where the account is not found, 16 and 12 where it is, or the count of the pieces

abbrev pub close_judged : Result (Unit {0}) Refusal → ℕ → Result ℕ Refusal
close_judged (Ok _) count = Ok count
close_judged (Err r) count = Err r

abbrev pub close_of : Account → ℕ → Result ℕ Refusal
close_of a room = close_judged (judge_room a room) (length (listed a))

abbrev pub close_from : Named → ℕ → Result ℕ Refusal
close_from (refused r) room = Err r
close_from (found a) room = close_of a room
