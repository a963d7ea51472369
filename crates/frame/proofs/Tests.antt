-- From facts about numbers to the tests that definitions choose by: the ruleset for `search` and `simp`.
-- Assumes nothing.
use borrow.Author.Tests.{le-ltb, lt-ltb, le-leb, lt-leb, eq-eqb, ne_eqb}

pub ruleset tests = (le-ltb, lt-ltb, le-leb, lt-leb, eq-eqb, ne_eqb)
