-- Paper 01, 'Nearest objects': floats, their order, distances, and the search for the nearest vectors.
-- Root and Order speak of single floats, Distance of two vectors, Search of all that are stored.
pub mod Root
pub mod Order
pub mod Distance
pub mod Search
