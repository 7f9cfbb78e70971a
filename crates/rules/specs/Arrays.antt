-- Arrays (document 01, "Writing rules": "Arrays read their levels and base size first").
use Rattle.std.specs.Prelude.{ℕ, List, ◌∷◌, leb, length}
use Rattle.interpreter.specs.Trace.{write, limit, call, ask}
use Rattle.rules.specs.Flags.{Settings}
use Rattle.rules.specs.Record.{Record, Table, array_or}
use Rattle.rules.specs.Text.{brackets}
use Rattle.rules.specs.Task.{element, size_of, Rule, ◌>>◌, texted, value_of}
use Rattle.rules.specs.Types.{type_text}

module _ (c : Settings) (t : Table) where
  -- The base of an array: its size is asked for, then it is written, then the levels ("Arrays read their levels and base size first").
  unfoldable pub base_text : ℕ → List ℕ → Record → Rule
  base_text i sizes r = ask (call (size_of i 0)) (λ z. texted (type_text c r) >> write (brackets (value_of z) sizes))

  -- An array's element: a further level, or the base.
  unfoldable pub element_text : ℕ → List ℕ → Record → Rule
  element_text i sizes r =
      array_or r (λ e size. limit (leb 32 (length sizes)) i (call (element e (size ∷ sizes)))) (base_text i sizes r)
