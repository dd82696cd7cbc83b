-- What an append list holds. Assumes nothing.
--     contents l          its records, in their order
--     used l              how many they are
--     capacity l          how many slots it was lent
--     Grown l xs l'       l became l', in the same memory, with the records xs at its end
--     Offered r l x l'    l was offered x and became l': with x at its end, or full and as it was
use Rattle.std.specs.Prelude.{◌≡◌, ℕ, ◌+◌, ◌<◌, List, [], ◌∷◌, ◌++◌, length, take, Ok, Err, Result}
use Rattle.records.specs.declared.list.AppendList.{AppendList}

module _ {T : Type 0} where
  abbrev pub contents : AppendList T → List T
  contents l = take l.len l.slots.now

  abbrev pub used : AppendList T → ℕ
  used l = l.len

  abbrev pub capacity : AppendList T → ℕ
  capacity l = length l.slots.now

  pub record Grown (l : AppendList T) (xs : List T) (l' : AppendList T) : Type 0 where
    pub place : l'.slots.ghost_name ≡ l.slots.ghost_name
    pub room : capacity l' ≡ capacity l
    pub added : contents l' ≡ contents l ++ xs
    pub used : used l' ≡ used l + length xs

  abbrev pub Offered : {U E : Type 0} → Result U E → AppendList T → T → AppendList T → Type 0
  Offered (Ok u) l x l' = (used l < capacity l) × Grown l (x ∷ []) l'
  Offered (Err e) l x l' = (used l ≡ capacity l) × Grown l [] l'
