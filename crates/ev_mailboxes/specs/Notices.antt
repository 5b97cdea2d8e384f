-- The lines for the operator of running edges.
use Rattle.std.specs.Prelude.{◌≡◌, ℕ, Bool, false, true, List, [], ◌∷◌, ◌++◌, codes, nat_lt, if◌then◌else◌}
use Rattle.std.specs.Prelude.{Option, Some, None, Result}
use Rattle.std.specs.Prelude.{Ok, Err}
use Rattle.std.specs.Fmt.{decimal}
use Rattle.ether_wire.specs.Addr.{mac_text, addr_text}
use Rattle.ether_wire.specs.declared.ends.Device.{Device}
use Rattle.ether_wire.specs.Ends.{End, Puts}
use Rattle.mac_arena.specs.declared.station.Station.{Station}
use Rattle.ev_mobility.specs.declared.alert.Alert.{Alert}
use Rattle.ev_mobility.specs.declared.alert.Alert.TheVariants.{StaticElsewhere, SequenceSpent, Duplicate, LostStatic}
use Rattle.ev_mobility.specs.declared.alert.Alert.TheVariants.{CounterSpent, TableFull, PortFull, PortBusy, PortStorm}
use Rattle.ev_mobility.specs.declared.alert.Alert.TheVariants.{NoMemory}
use Rattle.ev_mailboxes.specs.declared.alarm.Alarm.{Alarm}
use Rattle.ev_mailboxes.specs.declared.board.Notice.{Notice}
use Rattle.ev_mailboxes.specs.declared.receptions.Input.{Input}
use Rattle.ev_mailboxes.specs.declared.receptions.Input.TheVariants.{Port, Tunnel, Clock}
use Rattle.ev_mailboxes.specs.declared.receptions.Reception.{Reception as Change}
use Rattle.ev_mailboxes.specs.declared.sendings.Sending.{Sending as SendChange}
use Rattle.ev_mailboxes.specs.declared.records.Refused.{Refused as Refusal}
use Rattle.ev_mailboxes.specs.declared.records.Refused.TheVariants.{Record, Unlisted, Outlived, OwnOutlived}
use Rattle.ev_mailboxes.specs.declared.notices.News.{News}
use Rattle.ev_mailboxes.specs.declared.notices.News.TheVariants.{Alerts, Reception, Sending, Untold, Refused}
use Rattle.ev_links.specs.Coming.{behind, after_these}

-- ---- a line

abbrev pub alert_words : Alert → List ℕ
alert_words StaticElsewhere = codes "static at another edge"
alert_words SequenceSpent = codes "sequence numbers spent"
alert_words Duplicate = codes "duplicate"
alert_words LostStatic = codes "lost a pinned station"
alert_words CounterSpent = codes "counter spent"
alert_words TableFull = codes "learning table full"
alert_words (PortFull port) = codes "too many stations"
alert_words (PortBusy port) = codes "too many new stations"
alert_words (PortStorm port) = codes "too many group or unknown frames"
alert_words NoMemory = codes "no memory"

-- `edge E: `
abbrev pub edge_text : ℕ → List ℕ
edge_text edge = codes "edge " ++ decimal edge ++ codes ": "

-- `N more alerts were held back`
abbrev pub count_text : ℕ → List ℕ
count_text held = decimal held ++ codes " more alerts were held back\n"

-- `edge E: N more alerts were held back`, if N isn't 0
abbrev pub held_text : ℕ → ℕ → List ℕ
held_text edge held = if nat_lt 0 held then edge_text edge ++ count_text held else []

-- ` VNI MAC`
abbrev pub station_text : Option Station → List ℕ
station_text None = []
station_text (Some s) = codes " " ++ decimal s.vni ++ codes " " ++ mac_text s.mac

-- ` on port P`, and the end of the line
abbrev pub place_text : Option ℕ → List ℕ
place_text None = codes "\n"
place_text (Some port) = codes " on port " ++ decimal port ++ codes "\n"

-- `edge E: WORDS VNI MAC on port P`
abbrev pub alarm_text : ℕ → Alarm → List ℕ
alarm_text edge a = edge_text edge ++ alert_words a.alert ++ station_text a.station ++ place_text a.port

abbrev pub about_text : ℕ → Option Alarm → List ℕ
about_text edge None = []
about_text edge (Some a) = alarm_text edge a

-- the number of alerts that were suppressed before, and the alert
abbrev pub notice_text : ℕ → Notice → List ℕ
notice_text edge n = held_text edge n.held ++ about_text edge n.alarm

-- ---- a link that fails

abbrev pub input_text : Input → List ℕ
input_text (Port port) = codes "port " ++ decimal port
input_text Tunnel = codes "tunnel"
input_text Clock = codes "clock"

abbrev pub state_text : Bool → List ℕ
state_text true = codes ": receiving again\n"
state_text false = codes ": receiving failed\n"

-- `edge E port P: receiving failed`, `edge E tunnel: receiving again`
abbrev pub reception_text : ℕ → Change → List ℕ
reception_text edge r = codes "edge " ++ decimal edge ++ codes " " ++ input_text r.input ++ state_text r.works

abbrev pub sending_state_text : Bool → List ℕ
sending_state_text true = codes ": sending again\n"
sending_state_text false = codes ": sending failed\n"

-- `edge E port P: sending failed`, `edge E tunnel: sending again`
abbrev pub sending_text : ℕ → SendChange → List ℕ
sending_text edge s = codes "edge " ++ decimal edge ++ codes " " ++ input_text s.output ++ sending_state_text s.works

-- `edge E: receiving failed or was there again N more times`
abbrev pub untold_text : ℕ → ℕ → List ℕ
untold_text edge count =
    edge_text edge ++ codes "receiving failed or was there again " ++ decimal count ++ codes " more times\n"

-- ---- records of a connection

-- `records of ORIGINATOR: ` and these words
abbrev pub records_text : ℕ → List ℕ → List ℕ
records_text originator words = codes "records of " ++ addr_text originator ++ codes ": " ++ words

-- `records: refused NUMBER`, for a record or for the octets after the last one
abbrev pub number_text : ℕ → List ℕ
number_text number = codes "records: refused " ++ decimal number ++ codes "\n"

-- the refusal's number; or the originator, and why its records are refused
abbrev pub refused_text : Refusal → List ℕ
refused_text (Record number) = number_text number
refused_text (Unlisted originator) = records_text originator
    (codes "dropped; no [[edge]] and no [[peer]] has this address\n")
refused_text (Outlived originator) = records_text originator
    (codes "older than those of its earlier life; raise its incarnation there\n")
refused_text (OwnOutlived originator) = records_text originator
    (codes "a peer holds newer ones of its earlier life; raise its incarnation here\n")

-- ---- all lines

abbrev pub news_text : ℕ → News → List ℕ
news_text edge (Alerts notice) = notice_text edge notice
news_text edge (Reception change) = reception_text edge change
news_text edge (Sending change) = sending_text edge change
news_text edge (Untold count) = untold_text edge count
news_text edge (Refused refusal) = refused_text refusal

-- a piece of news, and the number of its edge
abbrev pub Told : Type 0
Told = ℕ × News

-- the lines of this news; the list has the last piece first
abbrev pub lines_of : List Told → List ℕ
lines_of [] = []
lines_of (n ∷ ns) = lines_of ns ++ news_text n.0 n.1

-- the end came if no call failed
abbrev pub end_of_all : Result (Unit {0}) Device → List (Option Told)
end_of_all (Ok done) = None ∷ []
end_of_all (Err device) = []

-- The lines of all news that came were written, in order; or a call of the writer failed, and no more news was taken.
pub record TellsAll (came : Option (List (Option Told))) (old : End) (came' : Option (List (Option Told))) (new : End)
    (result : Result (Unit {0}) Device) : Type 0 where
  pub things : List Told
  pub told : came' ≡ behind (after_these came things) (end_of_all result)
  pub written : Puts old new (lines_of things) result
