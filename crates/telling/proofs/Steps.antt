-- One piece after the other is written. Assumes nothing.
use Rattle.std.proofs.Common.{◌≡◌, ℕ, List, ◌++◌, ap, ◌∙◌, append_assoc}

pub two : (b₀ b₁ b₂ x y : List ℕ) → b₁ ≡ b₀ ++ x → b₂ ≡ b₁ ++ y → b₂ ≡ b₀ ++ (x ++ y)
two b₀ b₁ b₂ x y first then = then ∙ ap (λ l. l ++ y) first ∙ append_assoc b₀ x y

pub three : (b₀ b₁ b₂ b₃ x y z : List ℕ) → b₁ ≡ b₀ ++ x → b₂ ≡ b₁ ++ y → b₃ ≡ b₂ ++ z → b₃ ≡ b₀ ++ (x ++ (y ++ z))
three b₀ b₁ b₂ b₃ x y z e f g = two b₀ b₁ b₃ x (y ++ z) e (two b₁ b₂ b₃ y z f g)

pub four : (b₀ b₁ b₂ b₃ b₄ x y z w : List ℕ) → b₁ ≡ b₀ ++ x → b₂ ≡ b₁ ++ y → b₃ ≡ b₂ ++ z → b₄ ≡ b₃ ++ w → b₄ ≡ b₀ ++ (x ++ (y ++ (z ++ w)))
four b₀ b₁ b₂ b₃ b₄ x y z w e f g h = two b₀ b₁ b₄ x (y ++ (z ++ w)) e (three b₁ b₂ b₃ b₄ y z w f g h)
