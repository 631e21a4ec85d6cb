-- The values that a rule goes through, element by element.
use Rattle.std.specs.Prelude.{◌≡◌, ℕ, suc, ◌<◌, List, length, slice_index_or}

-- vs are the values of the rule f from a on, over xs: the first is a, and each next one comes from the one before and
-- the next element (past the end a list has the default d or e)
pub record Trace {A B : Type 0} (f : B → A → B) (a : B) (xs : List A) (vs : List B) : Type 0 where
  pub long : length vs ≡ suc (length xs)
  pub first : (d : B) → slice_index_or vs 0 d ≡ a
  pub next : (d : B) (e : A) (i : ℕ) → i < length xs → slice_index_or vs (suc i) d ≡ f (slice_index_or vs i d) (slice_index_or xs i e)

-- there is exactly one such list of values, and it ends with the last one
pub record OneTrace {A B : Type 0} (f : B → A → B) (a : B) (xs : List A) (last : B) : Type 0 where
  pub values : List B
  pub trace : Trace f a xs values
  pub ends : (d : B) → slice_index_or values (length xs) d ≡ last
  pub only : (vs : List B) → Trace f a xs vs → vs ≡ values
