-- The numbers in a trailer, its 24 bytes, and its test by itself.
use Rattle.std.specs.Prelude.{ℕ, ◌+◌, ◌*◌, Bool, List, [], ◌∷◌, ◌++◌, leb, eqb, get_or, take, drop}
use Rattle.wire.specs.Numbers.{number16, number32, bytes16, bytes32}
use Rattle.model.specs.Lists.{every}
use Rattle.model.specs.Account.{account_fits, MOST_HELD}
use Rattle.model.specs.Image.{signature}
use Rattle.model.specs.Decoding.{same}
use Rattle.trailer.specs.declared.Trailer.{Trailer}

-- account 2, f 1, zero 1, k 2, records 2, held 2, zero 2, closed epoch 4, whole image length 4
unfoldable pub numbers_of : List ℕ → Trailer
numbers_of m = record {
  account = record {
    number = number16 m 0;
    fragments = get_or m 2 0;
    keys = number16 m 4;
    held = number16 m 8;
    closed = number32 m 12;
  };
  records = number16 m 6;
  length = number32 m 16;
}

-- the first 12 bytes, up to the closed epoch, and all 24: with the signature
unfoldable pub count_bytes : Trailer → List ℕ
count_bytes t = bytes16 t.account.number ++ (t.account.fragments ∷ 0 ∷ (bytes16 t.account.keys ++ (bytes16 t.records ++ (bytes16 t.account.held ++ 0 ∷ 0 ∷ []))))

unfoldable pub trailer_bytes : Trailer → List ℕ
trailer_bytes t = count_bytes t ++ (bytes32 t.account.closed ++ (bytes32 t.length ++ signature))

unfoldable pub signed : List ℕ → Bool
signed m = same (take 4 (drop 20 m)) signature

-- the length of an image with so many streams, records and held entries
abbrev pub image_length : ℕ → ℕ → ℕ → ℕ
image_length f r h = f * 8 + r * 8 + h * 20 + 24

-- zeros zero, account number, f and k in range, at most 256 held, counts and length agreeing, the n bytes of the data enough
unfoldable pub trailer_fits : ℕ → List ℕ → Bool
trailer_fits n m =
    let t = numbers_of m in
    every (
    eqb (get_or m 3 0) 0 ∷ eqb (number16 m 10) 0
    ∷ account_fits t.account.number t.account.fragments t.account.keys
    ∷ leb t.account.held MOST_HELD
    ∷ eqb t.length (image_length t.account.fragments t.records t.account.held)
    ∷ leb t.length n
    ∷ []
    )
