-- The numbers of an account as a lot's head has them, and the sixteen bytes of a head.
use Rattle.std.specs.Prelude.{ℕ, List, ◌∷◌, ◌++◌}
use Rattle.wire.specs.Numbers.{bytes16, bytes32}
use Rattle.lot.specs.Layout.{OPEN}
use Rattle.lot.specs.View.{number_of, fragments_of, keys_of, count_of, closed_of}
use Rattle.lot.specs.declared.Account.{Account}
use Rattle.model.specs.Account as model

unfoldable pub numbers_of : List ℕ → Account
numbers_of h = record { number = number_of h; fragments = fragments_of h; keys = keys_of h; held = count_of h; closed = closed_of h }

-- those of the account a, of which n entries are held
abbrev pub numbers_with : ℕ → model.Account → Account
numbers_with n a = record { number = a.number; fragments = a.fragments; keys = a.keys; held = n; closed = a.closed }

-- those of an account that was just opened
abbrev pub fresh_numbers : ℕ → ℕ → ℕ → Account
fresh_numbers number f k = record { number = number; fragments = f; keys = k; held = 0; closed = 0 }

-- the head of an open lot: tag 4, account 2, f 1, zero 1, k 2, held count 2, closed epoch 4
unfoldable pub head_bytes : Account → List ℕ
head_bytes n = OPEN ++ (bytes16 n.number ++ (n.fragments ∷ 0 ∷ (bytes16 n.keys ++ (bytes16 n.held ++ bytes32 n.closed))))
