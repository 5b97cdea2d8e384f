-- A station of VNI 5001, the two edges' updates about it, and the effect of each of these updates on the other edge.
use Rattle.std.proofs.Common.{◌≡◌, ◌+◌, ◌&&◌, ℕ, Bool, true, false, not, cond, List, [], ◌∷◌, ◌∙◌}
use Rattle.std.specs.Prelude.{is_some}
use Rattle.route_wire.specs.declared.update.Key.TheVariants.{Flood}
use Rattle.route_wire.specs.declared.update.Register.{Register}
use Rattle.route_wire.specs.declared.update.Value.{Value}
use Rattle.route_wire.specs.declared.update.Content.TheVariants.{Advert as Advertised, Withdrawn}
use Rattle.route_wire.specs.Fields.{flood_advert}
use Rattle.route_join.specs.Table.{is_news}
use Rattle.route_join.specs.Owner.{advert_of, owner_among}
use Rattle.mac_arena.specs.declared.station.Station.{Station}
use Rattle.mac_arena.specs.Learning.{Learning, after_removal as gone}
use Rattle.ev_claims.specs.Pending.{marked}
use Rattle.ev_claims.specs.Speaker.{Speaker, is_at, is_beaten}
use Rattle.ev_claims.specs.LocalRoutes.{LocalRoutes, key_of, moving, after_removal, after_take}
use Rattle.ev_sites.proofs.Tables.{Said, table_with, looked_up, found, taken, in_order, owned}

-- ---- updates

abbrev pub guest : Station
guest = record { vni = 5001; mac = 0x020000000001 }

abbrev pub flood_register : ℕ → Register
flood_register address = record { originator = address; key = Flood 5001 }

abbrev pub guest_register : ℕ → Register
guest_register address = record { originator = address; key = key_of guest }

-- an edge's first own value
abbrev pub said_first : Value
said_first = record { incarnation = 0; counter = 1; content = Advertised flood_advert }

-- the second one, for a station that it has learnt
abbrev pub said_guest : ℕ → Value
said_guest sequence = record { incarnation = 0; counter = 2; content = moving sequence }

-- the third one, for a station that it has lost
abbrev pub said_gone : Value
said_gone = record { incarnation = 0; counter = 3; content = Withdrawn }

-- ---- an edge of two ports that has taken these updates, the newest first

-- in this incarnation
abbrev pub speaker_in : ℕ → ℕ → List Said → ℕ → List Register → Speaker
speaker_in life address said counter pending =
    record { address = address; incarnation = life; table = table_with said; counter = counter; pending = pending }

-- in the first one
abbrev pub speaker_with : ℕ → List Said → ℕ → List Register → Speaker
speaker_with address said counter pending = speaker_in 0 address said counter pending

abbrev pub routes_with : Speaker → Learning → LocalRoutes
routes_with speaker learned = record {
  speaker = speaker;
  learned = learned;
  ports = 5001 ∷ 5001 ∷ [];
  vnis = 5001
      ∷ [];
}

-- ---- another edge's updates about the guest

-- it has an advert of its own, and another's is better
abbrev pub loses : ℕ → List Said → Bool
loses address said =
    is_some (advert_of (looked_up said (guest_register address)))
    && not (is_at (owner_among 5001 guest.mac (in_order said)) address)

beaten : (life address : ℕ) (said : List Said) (counter : ℕ) (pending : List Register)
    → is_beaten (speaker_in life address said counter pending) 5001 guest.mac ≡ loses address said
beaten life address said counter pending =
    rw (found said (guest_register address), owned said 5001 guest.mac)

-- the edge's local routes once it has taken the update, whether it loses the guest or not
heard : (life address other : ℕ) (said : List Said) (counter : ℕ) (pending : List Register) (learned : Learning)
    (v : Value)
    → is_news (looked_up said (guest_register other)) v ≡ true → (b : Bool)
    → loses address ((guest_register other, v) ∷ said) ≡ b
    → after_take (routes_with (speaker_in life address said counter pending) learned)
    (record { register = guest_register other; value = v })
    ≡ cond b (after_removal
    (routes_with (speaker_in life address ((guest_register other, v) ∷ said) counter pending) learned) guest)
    (routes_with (speaker_in life address ((guest_register other, v) ∷ said) counter pending) learned)
heard life address other said counter pending learned v news b is =
    rw (
      taken said (guest_register other) v news,
      (beaten life address ((guest_register other, v) ∷ said) counter
          pending ∙ is),
    )

pub keeps : (life address other : ℕ) (said : List Said) (counter : ℕ) (pending : List Register) (learned : Learning)
    (v : Value)
    → is_news (looked_up said (guest_register other)) v ≡ true
    → loses address ((guest_register other, v) ∷ said) ≡ false
    → after_take (routes_with (speaker_in life address said counter pending) learned)
    (record { register = guest_register other; value = v })
    ≡ routes_with (speaker_in life address ((guest_register other, v) ∷ said) counter pending) learned
keeps life address other said counter pending learned v news kept =
    heard life address other said counter pending learned v news false kept

-- it withdraws the station that it loses
pub withdraws : (address other : ℕ) (said : List Said) (counter : ℕ) (pending : List Register) (learned : Learning)
    (v : Value)
    → is_news (looked_up said (guest_register other)) v ≡ true → loses address ((guest_register other, v) ∷ said) ≡ true
    → after_take (routes_with (speaker_with address said counter pending) learned)
    (record { register = guest_register other; value = v })
    ≡ routes_with (speaker_with address
    ((guest_register address, record { incarnation = 0; counter = counter + 1; content = Withdrawn })
    ∷ (guest_register other, v) ∷ said) (counter + 1) (marked pending (guest_register address)))
    (gone learned guest)
withdraws address other said counter pending learned v news lost =
    heard 0 address other said counter pending learned v news true lost

-- a flood list is taken unchanged
pub hears : (life address other : ℕ) (said : List Said) (counter : ℕ) (pending : List Register) (learned : Learning)
    (v : Value) → is_news (looked_up said (flood_register other)) v ≡ true
    → after_take (routes_with (speaker_in life address said counter pending) learned)
    (record { register = flood_register other; value = v })
    ≡ routes_with (speaker_in life address ((flood_register other, v) ∷ said) counter pending) learned
hears life address other said counter pending learned v news =
    rw (taken said (flood_register other) v news)

-- ---- the two edges' tables

abbrev pub here : ℕ
here = 0x0a000001

abbrev pub there : ℕ
there = 0x0a000002

-- the guest is learnt at the first edge, and all updates are taken
abbrev pub first_said : List Said
first_said = (guest_register here, said_guest 0) ∷ (flood_register here, said_first) ∷ []

abbrev pub first_agreed : List Said
first_agreed = (flood_register there, said_first) ∷ first_said

abbrev pub second_heard : List Said
second_heard = (flood_register here, said_first) ∷ (flood_register there, said_first) ∷ []

abbrev pub second_agreed : List Said
second_agreed = (guest_register here, said_guest 0) ∷ second_heard

-- then at the second one
abbrev pub second_said : List Said
second_said = (guest_register there, said_guest 1) ∷ second_agreed

abbrev pub first_moved : List Said
first_moved = (guest_register here, said_gone) ∷ (guest_register there, said_guest 1) ∷ first_agreed

abbrev pub second_moved : List Said
second_moved = (guest_register here, said_gone) ∷ second_said
