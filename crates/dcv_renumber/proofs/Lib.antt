mod NewNumbers
mod OwnNodes
mod PlaceFacts
