-- What a sink has taken, told from its states before and after.
use Rattle.std.specs.Prelude.{◌≡◌, ℕ, ◌+◌, ◌-◌, ◌<◌, ◌≤◌, if◌then◌else◌, List, [], ◌++◌, length, take, drop, Some, None, Option, MatchOption, nat_le}
use Rattle.lp.specs.declared.sink.Room.{Room}
use Rattle.lp.specs.declared.sink.Writer.{Writer}

-- no bytes leave a sink as it is, and what is taken piece by piece is taken as one
pub record TakesInTurn {S : Type 0} (took : S → List ℕ → S → Type 0) : Type 0 where
  pub nothing : (s : S) → took s [] s
  pub joins : (s t u : S) (xs ys : List ℕ) → took s xs t → took t ys u → took s (xs ++ ys) u

-- the room that n bytes leave, if there is so much
abbrev pub room_after : Option ℕ → ℕ → Option ℕ
room_after None n = None
room_after (Some left) n = (if nat_le n left then Some (left - n) else None)

-- the room for these bytes was taken, or there was too little
abbrev pub Measured : Room → List ℕ → Room → Type 0
Measured s bytes t = t.left ≡ room_after s.left (length bytes)

-- these bytes of the memory, then others
abbrev pub filled : List ℕ → ℕ → List ℕ → List ℕ
filled cells at bytes = take at cells ++ (bytes ++ drop (at + length bytes) cells)

-- the bytes stand in the same memory from the place on, if there was room for them
pub record Written (s : Writer) (bytes : List ℕ) (t : Writer) : Type 0 where
  pub memory : s.out.ghost_name ≡ t.out.ghost_name
  pub at : s.at + length bytes ≤ length s.out.now → t.at ≡ s.at + length bytes
  pub cells : s.at + length bytes ≤ length s.out.now → t.out.now ≡ filled s.out.now s.at bytes

-- bytes that find no room leave the place and the memory as they are
pub record LetGo (s : Writer) (bytes : List ℕ) (t : Writer) : Type 0 where
  pub at : length s.out.now < s.at + length bytes → t.at ≡ s.at
  pub cells : length s.out.now < s.at + length bytes → t.out.now ≡ s.out.now

-- memory is too short and stays as it is
pub record Refuses (bytes before after : List ℕ) : Type 0 where
  pub short : length before < length bytes
  pub same : after ≡ before

-- the bytes stand at the start of the memory; the rest stays as it is
pub record Stands (bytes before : List ℕ) (n : ℕ) (after : List ℕ) : Type 0 where
  pub fits : length bytes ≤ length before
  pub count : n ≡ length bytes
  pub cells : after ≡ bytes ++ drop n before

-- what is answered and left where bytes fill the start of given memory
abbrev pub Fills : List ℕ → List ℕ → Option ℕ → List ℕ → Type 0
Fills bytes before answer after = MatchOption answer (Refuses bytes before after) (λ n. Stands bytes before n after)
