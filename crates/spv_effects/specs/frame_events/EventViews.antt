-- What the code's events are as plain data.
use Rattle.std.specs.Prelude.{List, map}
use Rattle.spv_program.specs.Uses.{Own, Shared}
use Rattle.spv_effects.specs.frame_walk.Events as plain
use Rattle.spv_effects.specs.declared.frame_events.events.Event.{Event}
use Rattle.spv_effects.specs.declared.frame_events.events.Event.TheVariants as event

abbrev pub event_of : Event → plain.Event
event_of (event.Own x changes line) = plain.Used (record { root = Own x; changes = changes; line = line })
event_of (event.Shared i changes line) = plain.Used (record { root = Shared i; changes = changes; line = line })
event_of (event.Called c) = plain.Called c.now

abbrev pub events_of : List Event → List plain.Event
events_of events = map event_of events
