-- How a struct lies in memory: its size, its alignment, and the offset and the size of each field.
-- Assumes nothing.
use Rattle.std.specs.Prelude.{◌≡◌, List, [], ◌∷◌, ℕ, zero, suc}
use Rattle.std.proofs.Math.Option.{none, some}
use mir.Syntax.{Ty}
use prog.Memory.{size, align, field_of}

-- what f gives of each field from k on, of at most so many
abbrev fields_from : ℕ → (Ty × ℕ → ℕ) → ℕ → Ty → List ℕ
fields_from zero f k τ = []
fields_from (suc fuel) f k τ = elim (field_of τ k) [ none ↦ [] | some x ↦ f x ∷ fields_from fuel f (suc k) τ ]

pub record Lies (τ : Ty) (bytes multiple : ℕ) (offsets sizes : List ℕ) : Type 0 where
  pub size_is : size τ ≡ bytes
  pub align_is : align τ ≡ multiple
  pub offsets_are : fields_from 16 (λ x. x.1) 0 τ ≡ offsets
  pub sizes_are : fields_from 16 (λ x. size x.0) 0 τ ≡ sizes
