-- The end of a stream's entries among them, and an entry put in there.
use Rattle.std.specs.Prelude.{ℕ, zero, suc, ◌+◌, ◌*◌, ◌-◌, ◌≡◌, true, List, ◌∷◌, ◌++◌, leb, get_or, drop, if◌then◌else◌}
use Rattle.model.specs.Entry.{entry_of, fits}
use Rattle.model.specs.Taking.{hold}
use Rattle.model.specs.Image.{Item}
use Rattle.model.specs.Section.{items, plain}

-- one past the last of n places whose stream is not above the fragment, and 0 if there is none
unfoldable pub end_of : List ℕ → ℕ → ℕ → ℕ
end_of h zero fragment = 0
end_of h (suc n) fragment = if leb (get_or h (n * 20 + 1) 0) fragment then suc n else end_of h n fragment

-- the item of an entry's bytes, held in an epoch
abbrev pub held_item : List ℕ → ℕ → Item
held_item bytes epoch = record { stream = (entry_of bytes).fragment; entry = hold (entry_of bytes) epoch }

-- h' is the section h of n places with the entry put in at the end of its stream's entries
pub record EntryHeld (h h' : List ℕ) (n : ℕ) (bytes : List ℕ) (epoch : ℕ) : Type 0 where
  pub are :
      let p = end_of h n (entry_of bytes).fragment in
      fits (entry_of bytes) ≡ true → items (n + 1) h' ≡ items p h ++ (held_item bytes epoch ∷ items (n - p) (drop (p * 20) h))
  pub stays_plain : fits (entry_of bytes) ≡ true → plain n h ≡ true → plain (n + 1) h' ≡ true
