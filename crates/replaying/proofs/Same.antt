-- The page's text of a run is one: two that it says of the same header and entries are equal. A header under 4 bytes is unfit. Assumes nothing.
use Prim.Native.Nat.{ℕ, ◌<◌}
use mathlib.Core.Path.{◌≡◌, refl, ap, sym, ◌∙◌}
use mathlib.Core.Bool.{false}
use mathlib.Core.List.{List, ◌++◌}
use borrow.Author.Tests.{lt-ltb}
use lib.ListN.{length}
use Rattle.model.specs.Lists.{every}
use Rattle.model.specs.Account.{Account, account_fits}
use Rattle.model.proofs.Tests.{no_way}
use Rattle.replaying.specs.Replaying.{header_of, closed_text, account_text}
use Rattle.replaying.specs.Steps as steps
use Rattle.replaying.specs.Steps.{Closings, Step}
use Rattle.replaying.specs.Runs as runs
use Rattle.replaying.specs.Runs.{Steps, header_fits, Prints}

pub short_header : (header : List ℕ) → length header < 4 → header_fits (header_of header) ≡ false
unfolding header_of account_fits every
short_header header h = rw (lt-ltb (length header) 4 h)

-- two outcomes: equal texts and equal accounts
abbrev Equal : List ℕ → List ℕ → Account → Account → Type 0
Equal t u b c = (t ≡ u) × (b ≡ c)

joined : {s t u v : List ℕ} → s ≡ u → t ≡ v → s ++ t ≡ u ++ v
joined p q = cc

closings_same : {a b c : Account} {t u : List ℕ} → Closings a t b → Closings a u c → Equal t u b c
closings_same (steps.stuck n) (steps.stuck k) = (refl, refl)
closings_same (steps.stuck n) (steps.closes e y) = absurd (n e)
closings_same (steps.closes e x) (steps.stuck n) = absurd (n e)
closings_same (steps.closes e x) (steps.closes {a} d y) = let s = closings_same x y in (ap (λ t. closed_text a ++ t) s.0, s.1)

step_same : {i : ℕ} {bytes : List ℕ} {a b c : Account} {t u : List ℕ} → Step i bytes a t b → Step i bytes a u c → Equal t u b c
step_same (steps.refused e) (steps.refused d) = (cc, refl)
step_same (steps.refused e) (steps.taken d y) = no_way cc
step_same (steps.taken e x) (steps.refused d) = no_way cc
step_same (steps.taken e x) (steps.taken d y) = closings_same x y

pub steps_same : {i : ℕ} {entries : List (List ℕ)} {a b c : Account} {t u : List ℕ} → Steps i entries a t b → Steps i entries a u c → Equal t u b c
steps_same runs.ended runs.ended = (refl, refl)
steps_same (runs.step x xs) (runs.step y ys) = let s = step_same x y in let l = steps_same xs (rw (sym s.1) at ys) in (joined s.0 l.0, l.1)

pub prints_same : {header : List ℕ} {entries : List (List ℕ)} {t u : List ℕ} → Prints header entries t → Prints header entries u → t ≡ u
prints_same (runs.unfit e) (runs.unfit d) = refl
prints_same (runs.unfit e) (runs.whole r d y) = no_way (sym (rw r at e) ∙ d)
prints_same (runs.whole r e x) (runs.unfit d) = no_way (sym (rw r at d) ∙ e)
prints_same (runs.whole {h} r e x) (runs.whole {h = k} q d y) =
    let same : k ≡ h = cc in
    let s = steps_same x (rw same at y) in joined s.0 (ap account_text s.1)
