-- The saved image of an account. Between account and bytes stands what the image shows, in its order.
use Rattle.std.specs.Prelude.{ℕ, ◌+◌, List, [], ◌∷◌, ◌++◌, map, length}
use Rattle.wire.specs.Numbers.{bytes16, bytes32}
use Rattle.model.specs.Lists.{upward, one}
use Rattle.model.specs.Account.{Held, Record, absent, present, Account}
use Rattle.model.specs.declared.Counters.{Counters}

-- ---- what an image shows

-- a present record
pub record Present : Type 0 where
  pub fragment : ℕ
  pub key : ℕ
  pub value : ℕ

-- a held entry and the stream in which it stands
pub record Item : Type 0 where
  pub stream : ℕ
  pub entry : Held

pub record Form : Type 0 where
  pub number : ℕ
  pub keys : ℕ
  pub closed : ℕ
  pub streams : List Counters
  pub records : List Present
  pub held : List Item

unfoldable pub shown : ℕ → ℕ → Record → List Present
shown i k absent = []
shown i k (present v) = record { fragment = i; key = k; value = v } ∷ []

-- the streams; the present records, by fragment, then key; the held entries, by stream, then position
unfoldable pub form : Account → Form
form a = record {
  number = a.number;
  keys = a.keys;
  closed = a.closed;
  streams = upward a.fragments 0 (λ i. (a.at i).counters ∷ []);
  records = upward a.fragments 0 (λ i. upward a.keys 0 (λ k. shown i k ((a.at i).records k)));
  held = upward a.fragments 0 (λ i. map (λ h. record { stream = i; entry = h }) (a.at i).held);
}

-- ---- its bytes

-- for each stream 8 bytes: next number 2, zero 2, open epoch 4
unfoldable pub stream8 : Counters → List ℕ
stream8 s = bytes16 s.next ++ (0 ∷ 0 ∷ bytes32 s.epoch)

-- for each present record 8 bytes: fragment 1, zero 1, key 2, value 4
unfoldable pub record8 : Present → List ℕ
record8 r = r.fragment ∷ 0 ∷ (bytes16 r.key ++ bytes32 r.value)

-- for each held entry 20 bytes: the entry with bytes 2-3 zero and byte 11 = 1 if flagged, then its epoch, 4
unfoldable pub held20 : Item → List ℕ
held20 e =
    let h = e.entry in
    h.kind ∷ e.stream ∷ 0 ∷ 0 ∷ (bytes32 h.transaction ++ (bytes16 h.argument ++ (0 ∷ one h.flagged ∷ (bytes32 h.value ++ bytes32 h.epoch))))

module _ {X : Type 0} where
  unfoldable pub each : (X → List ℕ) → List X → List ℕ
  each enc [] = []
  each enc (x ∷ xs) = enc x ++ each enc xs

-- the four bytes that an image ends with
abbrev pub signature : List ℕ
signature = 0x45 ∷ 0x50 ∷ 0x42 ∷ 0x31 ∷ []

-- account 2, f 1, zero 1, k 2, records 2, held 2, zero 2, closed epoch 4, whole image length 4, and the signature
unfoldable pub trailer24 : Form → ℕ → List ℕ
trailer24 x n =
    bytes16 x.number ++ (length x.streams ∷ 0 ∷ (bytes16 x.keys ++ (bytes16 (length x.records) ++ (bytes16 (length x.held) ++ (0 ∷ 0 ∷ (bytes32 x.closed ++ (bytes32 n ++ signature)))))))

unfoldable pub body : Form → List ℕ
body x = each stream8 x.streams ++ (each record8 x.records ++ each held20 x.held)

unfoldable pub bytes : Form → List ℕ
bytes x = body x ++ trailer24 x (length (body x) + 24)

unfoldable pub image : Account → List ℕ
image a = bytes (form a)

abbrev pub LONGEST_IMAGE : ℕ
LONGEST_IMAGE = 13400
