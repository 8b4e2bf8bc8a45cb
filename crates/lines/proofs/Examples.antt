-- Numbers on either side of a digit more, and lines, as their definitions compute them. Assumes nothing.
use mathlib.Core.Path.{◌≡◌, refl}
use mathlib.Core.List.{[], ◌∷◌}
use Rattle.lines.specs.Text.{decimal, digits}
use Rattle.lines.specs.Lines.{epoch_line, record_line, entry_line, open_line}

zero : decimal 0 ≡ 48 ∷ []
unfolding decimal digits
zero = refl

nine : decimal 9 ≡ 57 ∷ []
unfolding decimal digits
nine = refl

ten : decimal 10 ≡ 49 ∷ 48 ∷ []
unfolding decimal digits
ten = refl

largest : decimal 18446744073709551615 ≡ 49 ∷ 56 ∷ 52 ∷ 52 ∷ 54 ∷ 55 ∷ 52 ∷ 52 ∷ 48 ∷ 55 ∷ 51 ∷ 55 ∷ 48 ∷ 57 ∷ 53 ∷ 53 ∷ 49 ∷ 54 ∷ 49 ∷ 53 ∷ []
unfolding decimal digits
largest = refl

-- epoch 1 pieces 2
epoch : epoch_line 1 2 ≡ 101 ∷ 112 ∷ 111 ∷ 99 ∷ 104 ∷ 32 ∷ 49 ∷ 32 ∷ 112 ∷ 105 ∷ 101 ∷ 99 ∷ 101 ∷ 115 ∷ 32 ∷ 50 ∷ 10 ∷ []
unfolding epoch_line decimal digits
epoch = refl

-- record 1 2 30
rec : record_line 1 2 30 ≡ 114 ∷ 101 ∷ 99 ∷ 111 ∷ 114 ∷ 100 ∷ 32 ∷ 49 ∷ 32 ∷ 50 ∷ 32 ∷ 51 ∷ 48 ∷ 10 ∷ []
unfolding record_line decimal digits
rec = refl

-- entry 10 refused 7
entry : entry_line 10 7 ≡ 101 ∷ 110 ∷ 116 ∷ 114 ∷ 121 ∷ 32 ∷ 49 ∷ 48 ∷ 32 ∷ 114 ∷ 101 ∷ 102 ∷ 117 ∷ 115 ∷ 101 ∷ 100 ∷ 32 ∷ 55 ∷ 10 ∷ []
unfolding entry_line decimal digits
entry = refl

-- open refused 15
header : open_line 15 ≡ 111 ∷ 112 ∷ 101 ∷ 110 ∷ 32 ∷ 114 ∷ 101 ∷ 102 ∷ 117 ∷ 115 ∷ 101 ∷ 100 ∷ 32 ∷ 49 ∷ 53 ∷ 10 ∷ []
unfolding open_line decimal digits
header = refl
