-- The place of a service, and the places that a span covers.
use Rattle.std.specs.Prelude.{ℕ, ◌+◌, ◌*◌, Bool, ◌&&◌, Some, None, Option, nat_le}
use Rattle.service.specs.declared.service.Service.{Service}
use Rattle.service.specs.declared.span.Span.{Span}

-- where the service of a protocol and a port stands
abbrev pub service_at : ℕ → ℕ → ℕ
service_at protocol port = protocol * 65536 + port

-- where a service stands
abbrev pub place_of : Service → ℕ
place_of s = service_at s.protocol s.port

-- the place of a port of a span's protocol, and else the one given for all services
abbrev pub port_place : Option ℕ → ℕ → ℕ → ℕ
port_place None port all = all
port_place (Some protocol) port all = service_at protocol port

-- the first place of a span: that of its low port, or of the first service
abbrev pub first_place : Span → ℕ
first_place s = port_place s.protocol s.low 0

-- the last place of a span: that of its high port, or of the last service
abbrev pub last_place : Span → ℕ
last_place s = port_place s.protocol s.high 16777215

-- the span has the service at the place x
abbrev pub span_has : Span → ℕ → Bool
span_has s x = nat_le (first_place s) x && nat_le x (last_place s)
