-- "up to 64 entries, each a place in the source, a length and an address"; "The table lists names in order of first appearance, with that place; a
-- repeated label takes the later address and alters nothing else; unused entries are 0."
use Rattle.std.specs.Prelude.{ℕ, zero, suc, ◌+◌, Bool, true, ◌&&◌, List, eqb, get_or, set, replicate, take, Option}
use Rattle.std.specs.List.{position, zip}
use Rattle.table.specs.declared.labels.Labels.{Labels}

abbrev pub no_labels : Labels
no_labels =
    record { count = 0; places = replicate 64 0; lengths = replicate 64 0; addresses = replicate 64 0 }

-- so many bytes of the source from one place on are those from another on
unfoldable pub alike : (source : List ℕ) (a b n : ℕ) → Bool
alike source a b zero = true
alike source a b (suc n) = eqb (get_or source a 0) (get_or source b 0) && alike source (a + 1) (b + 1) n

-- whether an entry's place and length are those of the name that stands at a place
abbrev pub same_name : (source : List ℕ) (entry : ℕ × ℕ) (place length : ℕ) → Bool
same_name source entry place length = eqb entry.1 length && alike source entry.0 place length

-- the first entry that has the name
abbrev pub found : (source : List ℕ) (t : Labels) (place length : ℕ) → Option ℕ
found source t place length =
    position (λ (e : ℕ × ℕ). same_name source e place length) (zip (take t.count t.places) (take t.count t.lengths))

-- "a repeated label takes the later address and alters nothing else"
abbrev pub readdressed : (t : Labels) (i address : ℕ) → Labels
readdressed t i address =
    record { count = t.count; places = t.places; lengths = t.lengths; addresses = set t.addresses i address }

-- a new name behind the others
abbrev pub with_label : (t : Labels) (place length address : ℕ) → Labels
with_label t place length address =
    record {
      count = t.count + 1;
      places = set t.places t.count place;
      lengths = set t.lengths t.count length;
      addresses = set t.addresses t.count address;
    }
