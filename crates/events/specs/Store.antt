-- What a store of records supplies, over any kind of point: the lent pool is one (`Pool`). The definitions of division, the sweep and connection
-- go through this record, and so hold for any store.
use Rattle.std.specs.Prelude.{ℕ, cond, nat_lt}
use Rattle.events.specs.Event.{Event}

pub record Store (P S : Type 0) : Type 0 where
  pub size : S → ℕ
  pub row_at : S → ℕ → Event P
  -- a new record, written whole
  pub enter : S → ℕ → Event P → S
  -- a record that is there already, in what it now says otherwise
  pub store : S → ℕ → Event P → S
  -- what is read where there is no record
  pub blank : ℕ → Event P

-- The record with a number, where the first `used` places are in use. What lies beyond them is blank, so that nothing depends on what it holds.
unfoldable pub look : {P S : Type 0} → Store P S → S → ℕ → ℕ → Event P
look K s used i = cond (nat_lt i used) (K.row_at s i) (K.blank i)
