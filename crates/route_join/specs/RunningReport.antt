-- A report that is written register by register: its state, and what is written for each register and at the end.
use Rattle.std.specs.Prelude.{ℕ, Bool, false, if◌then◌else◌, Option, Some, None, List, [], ◌∷◌, ◌++◌}
use Rattle.std.specs.Ordering.{is_eq}
use Rattle.std.specs.Option.{option_map}
use Rattle.route_wire.specs.declared.update.Register.{Register}
use Rattle.route_wire.specs.declared.update.Advert.{Advert}
use Rattle.route_wire.specs.declared.update.Value.{Value}
use Rattle.route_wire.specs.Fields.{Fields}
use Rattle.route_join.specs.Subject.{Subject, subject_cmp, subject_of}
use Rattle.route_join.specs.Owner.{advert_in, better_of}
use Rattle.route_join.specs.Report.{register_line, owner_line}

-- the subject of the last register, if one has been written, and the best advert of that subject so far
pub record Begun : Type 0 where
  pub subject : Option Subject
  pub best : Option (Register × Advert)

abbrev pub nothing_begun : Begun
nothing_begun = record { subject = None; best = None }

abbrev pub is_begun : Option Subject → Subject → Bool
is_begun None s = false
is_begun (Some t) s = is_eq (subject_cmp t s)

-- the owner's line of a MAC address; a flood list has none
abbrev pub owner_text : ℕ → Option ℕ → Option ℕ → List ℕ
owner_text vni None owner = []
owner_text vni (Some mac) owner = owner_line vni mac owner

-- the originator of an advert's register
abbrev pub origin_of : Option (Register × Advert) → Option ℕ
origin_of best = option_map (λ (x : Register × Advert). x.0.originator) best

-- the owner's line of the subject that has begun
abbrev pub subject_end : Option Subject → Option (Register × Advert) → List ℕ
subject_end None best = []
subject_end (Some s) best = owner_text s.vni s.mac (origin_of best)

abbrev pub end_text : Begun → List ℕ
end_text b = subject_end b.subject b.best

-- the owner's line of the subject before, if another one begins, and the register's line
abbrev pub text_with : Begun → Register × Value → List ℕ
text_with b e = (if is_begun b.subject (subject_of e.0.key) then [] else end_text b) ++ register_line e.0 e.1

-- the state in which the subject has begun
abbrev pub begun_at : Begun → Subject → Begun
begun_at b s = if is_begun b.subject s then b else record { subject = Some s; best = None }

-- the state after the register
abbrev pub begun_with : Begun → Register × Value → Begun
begun_with b e = record {
  subject = (begun_at b (subject_of e.0.key)).subject;
  best = better_of e.0 (advert_in e.1.content) (begun_at b (subject_of e.0.key)).best;
}

abbrev pub entry_of : Fields → Register × Value
entry_of u = (u.register, u.value)

-- ---- for many registers

abbrev pub texts_with : Begun → List (Register × Value) → List ℕ
texts_with b [] = []
texts_with b (e ∷ es) = text_with b e ++ texts_with (begun_with b e) es

abbrev pub begun_by : Begun → List (Register × Value) → Begun
begun_by b [] = b
begun_by b (e ∷ es) = begun_by (begun_with b e) es
